-- What is saved of sensors.
use Rattle.std.proofs.Common.{◌≡◌, ℕ, suc, List, [], ◌∷◌, ◌++◌, refl, ap}
use Rattle.std.specs.Prelude.{flat_map}
use Rattle.rdm_added.specs.declared.state.Measured.{Measured}
use Rattle.rdm_profile.specs.Values.{signed_slots}
use Rattle.rdm_added.specs.Views.State.{sensor_entries}
use Rattle.rdm_saved.specs.SavedText.{device_text}

text_from : (n : ℕ) (ms : List Measured) → device_text (sensor_entries n ms) ≡ flat_map (λ m. signed_slots m.recorded) ms
text_from n [] = refl
text_from n (m ∷ ms) = ap (λ (bytes : List ℕ). signed_slots m.recorded ++ bytes) (text_from (suc n) ms)

pub sensors_text : (ms : List Measured) → device_text (sensor_entries 0 ms) ≡ flat_map (λ m. signed_slots m.recorded) ms
sensors_text ms = text_from 0 ms
