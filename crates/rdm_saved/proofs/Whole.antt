-- What is saved of each value has the size of its PID.
use Rattle.std.proofs.Common.{◌≡◌, ℕ, suc, ◌+◌, ◌-◌, ◌≤◌, ◌<◌, List, [], ◌∷◌, ◌++◌, length, length-append, take, get_or, map, replicate, refl, sym, ap, subst, ◌∙◌, arith}
use Rattle.std.proofs.lemmas.List.{take_more, map-append, length-replicate}
use Rattle.rdm_added.specs.declared.state.CommonValues.{CommonValues}
use Rattle.rdm_added.specs.declared.state.RootValues.{RootValues}
use Rattle.rdm_added.specs.declared.state.Kept.{Kept}
use Rattle.rdm_added.specs.declared.state.Measured.{Measured}
use Rattle.rdm_added.specs.Map.{Entry}
use Rattle.rdm_added.specs.Views.State.{common_entries, own_entries, sensor_entries, kept_entry, added_entries}
use Rattle.rdm_profile.specs.Values.{word_slots}
use Rattle.rdm_saved.specs.SavedText.{label_text, kept_text}
use Rattle.rdm_saved.specs.Laws.{IsWhole, AreTexts, AreWhole}

pub label_size : (label : List ℕ) → length label ≤ 32 → length (label_text label) ≡ 33
label_size label short = omega (arith, short, length-append label (replicate (32 - length label) 0), length-replicate {A = ℕ} (32 - length label) 0)

pub kept_size : (e : Entry) → length e.bytes ≤ 32 → length (kept_text e) ≡ 37
kept_size e short = omega (arith, label_size e.bytes short, length-append (word_slots e.pid ++ word_slots e.index) (label_text e.bytes), length-append (word_slots e.pid) (word_slots e.index))

pub common_whole : (d : CommonValues) → length d.label ≤ 32 → IsWhole (common_entries d)
unfolding common_entries
common_whole d short = (refl, (label_size d.label short, (refl, (refl, (refl, (refl, (refl, (refl, (refl, (refl, tt))))))))))

sensors_whole : (n : ℕ) (ms : List Measured) → IsWhole (sensor_entries n ms)
sensors_whole n [] = tt
sensors_whole n (m ∷ ms) = (refl, sensors_whole (suc n) ms)

own_whole : (o : RootValues) → IsWhole (own_entries o)
unfolding own_entries
own_whole o = (refl, (refl, (refl, (refl, (refl, (refl, (refl, (refl, (refl, (refl, sensors_whole 0 o.sensors.items))))))))))

whole_append : (xs ys : List Entry) → IsWhole xs → IsWhole ys → IsWhole (xs ++ ys)
whole_append [] ys h g = g
whole_append (x ∷ xs) ys h g = (h.0, whole_append xs ys h.1 g)

-- the root
pub root_whole : (d : CommonValues) (o : RootValues) → IsWhole (common_entries d) → IsWhole (common_entries d ++ own_entries o)
root_whole d o whole = whole_append (common_entries d) (own_entries o) whole (own_whole o)

are_append : (xs ys : List (List Entry)) → AreWhole xs → AreWhole ys → AreWhole (xs ++ ys)
are_append [] ys h g = g
are_append (x ∷ xs) ys h g = (h.0, are_append xs ys h.1 g)

-- one more sub-device
pub whole_more : (ds : List CommonValues) (i : ℕ) (d : CommonValues) → i < length ds → AreWhole (map common_entries (take i ds)) → IsWhole (common_entries (get_or ds i d)) → AreWhole (map common_entries (take (i + 1) ds))
whole_more ds i d lt so_far one =
    subst AreWhole (sym (ap (map common_entries) (take_more ds i d lt) ∙ map-append common_entries (take i ds) (get_or ds i d ∷ []))) (are_append (map common_entries (take i ds)) (common_entries (get_or ds i d) ∷ []) so_far (one, tt))

texts_append : (xs ys : List Entry) → AreTexts xs → AreTexts ys → AreTexts (xs ++ ys)
texts_append [] ys h g = g
texts_append (x ∷ xs) ys h g = (h.0, texts_append xs ys h.1 g)

-- one more value of a parameter that the maker adds
pub texts_more : (ks : List Kept) (i : ℕ) (k : Kept) → i < length ks → AreTexts (added_entries (take i ks)) → length (get_or ks i k).bytes ≤ 32 → AreTexts (added_entries (take (i + 1) ks))
texts_more ks i k lt so_far one =
    subst AreTexts (sym (ap (map kept_entry) (take_more ks i k lt) ∙ map-append kept_entry (take i ks) (get_or ks i k ∷ []))) (texts_append (added_entries (take i ks)) (kept_entry (get_or ks i k) ∷ []) so_far (one, tt))
