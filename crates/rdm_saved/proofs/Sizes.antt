-- How many bytes an image has.
use Rattle.std.proofs.Common.{◌≡◌, ℕ, suc, ◌+◌, ◌*◌, List, [], ◌∷◌, ◌++◌, length, map, refl, arith}
use Rattle.std.proofs.lemmas.List.{length-map}
use Rattle.rdm_profile.specs.declared.profile.Profile.{Profile}
use Rattle.rdm_added.specs.declared.state.CommonValues.{CommonValues}
use Rattle.rdm_added.specs.declared.state.RootValues.{RootValues}
use Rattle.rdm_added.specs.declared.state.Measured.{Measured}
use Rattle.rdm_added.specs.Map.{Entry}
use Rattle.rdm_added.specs.Views.State.{common_entries, own_entries, sensor_entries, kept_entry, added_entries}
use Rattle.rdm_saved.specs.SameProfile.{device_size, devices_size}

pub size_append : (xs ys : List Entry) → device_size (xs ++ ys) ≡ device_size xs + device_size ys
size_append [] ys = omega arith
size_append (x ∷ xs) ys = omega (arith, size_append xs ys)

pub common_size : (d : CommonValues) → device_size (common_entries d) ≡ 46
unfolding common_entries
common_size d = refl

pub sensors_size : (n : ℕ) (ms : List Measured) → device_size (sensor_entries n ms) ≡ 2 * length ms
sensors_size n [] = refl
sensors_size n (m ∷ ms) = omega (arith, sensors_size (suc n) ms)

pub own_size : (o : RootValues) → device_size (own_entries o) ≡ 15 + 2 * length o.sensors.items
unfolding own_entries
own_size o = omega (arith, sensors_size 0 o.sensors.items)

pub subs_size : (ds : List CommonValues) → devices_size (map common_entries ds) ≡ 46 * length ds
subs_size [] = refl
subs_size (d ∷ ds) = omega (arith, common_size d, subs_size ds)

-- how many bytes the image has
pub len_is : (p : Profile) (d : CommonValues) (o : RootValues) (ds : List CommonValues) → 23 + 4 * length p.particulars.own + 2 * length p.particulars.without.items + device_size (common_entries d ++ own_entries o) + 37 * length (added_entries o.added.items) + devices_size (map common_entries ds) + 4 ≡ 88 + 4 * length p.particulars.own + 2 * length p.particulars.without.items + 2 * length o.sensors.items + 37 * length o.added.items + 46 * length ds
len_is p d o ds = omega (arith, size_append (common_entries d) (own_entries o), common_size d, own_size o, length-map o.added.items kept_entry, subs_size ds)
