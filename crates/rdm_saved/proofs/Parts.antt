-- The parts of an image.
use Rattle.std.proofs.Common.{◌≡◌, ℕ, List, ◌++◌, length, map, refl, sym, ap, ◌∙◌, append_assoc}
use Rattle.std.specs.Prelude.{flat_map}
use Rattle.std.proofs.lemmas.List.{length-map}
use Rattle.std.proofs.lemmas.Grind.{flat_map-append}
use Rattle.std.proofs.lemmas.List.Folds.{flat_map-map}
use Rattle.rdm_profile.specs.declared.profile.Profile.{Profile}
use Rattle.rdm_added.specs.declared.state.CommonValues.{CommonValues}
use Rattle.rdm_added.specs.declared.state.Kept.{Kept}
use Rattle.rdm_added.specs.declared.state.RootValues.{RootValues}
use Rattle.rdm_added.specs.Views.State.{common_entries, own_entries, sensor_entries, kept_entry, added_entries}
use Rattle.rdm_profile.specs.Values.{word_slots}
use Rattle.rdm_saved.specs.SavedText.{lasting, kept_text, device_text, added_text, profile_text, values_text, kept}

root_text : (d : CommonValues) (o : RootValues) (own : List ℕ) → device_text (own_entries o) ≡ own ++ device_text (sensor_entries 0 o.sensors.items) → device_text (common_entries d ++ own_entries o) ≡ device_text (common_entries d) ++ (own ++ device_text (sensor_entries 0 o.sensors.items))
root_text d o own e = flat_map-append lasting (common_entries d) (own_entries o) ∙ ap (λ (bytes : List ℕ). device_text (common_entries d) ++ bytes) e

added_is : (ks : List Kept) → added_text (added_entries ks) ≡ flat_map (λ (kept : Kept). kept_text (kept_entry kept)) ks
added_is ks = flat_map-map kept_text kept_entry ks

regroup : (a b c d e f : List ℕ) → a ++ (b ++ (c ++ (d ++ (e ++ f)))) ≡ ((a ++ (b ++ (c ++ d))) ++ e) ++ f
regroup a b c d e f = simp append_assoc

six_same : {a b c d e f a' b' c' d' e' f' : List ℕ} → a ≡ a' → b ≡ b' → c ≡ c' → d ≡ d' → e ≡ e' → f ≡ f' → a ++ (b ++ (c ++ (d ++ (e ++ f)))) ≡ a' ++ (b' ++ (c' ++ (d' ++ (e' ++ f'))))
six_same ea eb ec ed ee ef = rw (ea, eb, ec, ed, ee, ef) refl

-- what is said of the manufacturer and the profile
abbrev pub head : ℕ → Profile → ℕ → List ℕ
head maker p count = word_slots maker ++ profile_text p count

-- the six parts that are written are the values
pub values_are : (maker : ℕ) (p : Profile) (d : CommonValues) (o : RootValues) (ds : List CommonValues) (profile root own own_is sensors added subs : List ℕ) → profile ≡ head maker p (length o.added.items) → root ≡ device_text (common_entries d) → own ≡ own_is → device_text (own_entries o) ≡ own_is ++ device_text (sensor_entries 0 o.sensors.items) → sensors ≡ device_text (sensor_entries 0 o.sensors.items) → added ≡ flat_map (λ (kept : Kept). kept_text (kept_entry kept)) o.added.items → subs ≡ flat_map (λ values. device_text (common_entries values)) ds → profile ++ (root ++ (own ++ (sensors ++ (added ++ subs)))) ≡ values_text maker (kept p d o ds)
values_are maker p d o ds profile root own own_is sensors added subs ep er eo e es ea eb =
    let text : List ℕ = head maker p (length (added_entries o.added.items)) in
    let front : profile ≡ text = ep ∙ ap (head maker p) (sym (length-map o.added.items kept_entry)) in
    let parts = six_same front er eo es (ea ∙ sym (added_is o.added.items)) (eb ∙ sym (flat_map-map device_text common_entries ds)) in
    parts ∙ regroup text (device_text (common_entries d)) own_is (device_text (sensor_entries 0 o.sensors.items)) (added_text (added_entries o.added.items)) (flat_map device_text (map common_entries ds)) ∙ ap (λ (bytes : List ℕ). ((text ++ bytes) ++ added_text (added_entries o.added.items)) ++ flat_map device_text (map common_entries ds)) (sym (root_text d o own_is e))
