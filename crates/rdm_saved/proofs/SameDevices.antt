-- Values of the same devices have the same keys.
use Rattle.std.proofs.Common.{◌≡◌, ℕ, suc, List, [], ◌∷◌, ◌++◌, length, map, refl, arith}
use Rattle.rdm_profile.specs.declared.profile.Profile.{Profile}
use Rattle.rdm_added.specs.declared.state.CommonValues.{CommonValues}
use Rattle.rdm_added.specs.declared.state.RootValues.{RootValues}
use Rattle.rdm_added.specs.declared.state.Measured.{Measured}
use Rattle.rdm_added.specs.Map.{Entry}
use Rattle.rdm_added.specs.Views.State.{common_entries, own_entries, sensor_entries, added_entries}
use Rattle.rdm_saved.specs.SavedText.{kept}
use Rattle.rdm_saved.specs.Laws.{HaveSamePids, AllHaveSamePids, AreOfOneMake}

common_same : (d d' : CommonValues) → HaveSamePids (common_entries d) (common_entries d')
unfolding common_entries
common_same d d' = (refl, (refl, (refl, (refl, (refl, (refl, (refl, (refl, (refl, (refl, tt))))))))))

sensors_same : (n : ℕ) (ms ms' : List Measured) → length ms ≡ length ms' → HaveSamePids (sensor_entries n ms) (sensor_entries n ms')
sensors_same n [] [] e = tt
sensors_same n [] (m ∷ ms) e = absurd (omega (arith, e))
sensors_same n (m ∷ ms) [] e = absurd (omega (arith, e))
sensors_same n (m ∷ ms) (m' ∷ ms') e = (refl, sensors_same (suc n) ms ms' (omega (arith, e)))

own_same : (o o' : RootValues) → length o.sensors.items ≡ length o'.sensors.items → HaveSamePids (own_entries o) (own_entries o')
unfolding own_entries
own_same o o' e = (refl, (refl, (refl, (refl, (refl, (refl, (refl, (refl, (refl, (refl, sensors_same 0 o.sensors.items o'.sensors.items e))))))))))

same_append : (xs xs' ys ys' : List Entry) → HaveSamePids xs xs' → HaveSamePids ys ys' → HaveSamePids (xs ++ ys) (xs' ++ ys')
same_append [] [] ys ys' h g = g
same_append [] (x ∷ xs) ys ys' h g = absurd h
same_append (x ∷ xs) [] ys ys' h g = absurd h
same_append (x ∷ xs) (x' ∷ xs') ys ys' h g = (h.0, same_append xs xs' ys ys' h.1 g)

subs_same : (ds ds' : List CommonValues) → length ds ≡ length ds' → AllHaveSamePids (map common_entries ds) (map common_entries ds')
subs_same [] [] e = tt
subs_same [] (d ∷ ds) e = absurd (omega (arith, e))
subs_same (d ∷ ds) [] e = absurd (omega (arith, e))
subs_same (d ∷ ds) (d' ∷ ds') e = (common_same d d', subs_same ds ds' (omega (arith, e)))

pub one_make : (p : Profile) (d d' : CommonValues) (o o' : RootValues) (ds ds' : List CommonValues) → length o.sensors.items ≡ length o'.sensors.items → length ds ≡ length ds' → HaveSamePids (added_entries o.added.items) (added_entries o'.added.items) → AreOfOneMake (kept p d o ds) (kept p d' o' ds')
one_make p d d' o o' ds ds' sensors subs added = record {
  profile = refl;
  root = same_append (common_entries d) (common_entries d') (own_entries o) (own_entries o') (common_same d d') (own_same o o' sensors);
  added = added;
  subs = subs_same ds ds' subs;
}
