-- What sensors start with.
use Rattle.std.proofs.Common.{◌≡◌, ℕ, zero, suc, ◌+◌, List, [], ◌∷◌, ◌++◌, length, replicate, refl, ap, ◌∙◌, add-one}
use Rattle.std.specs.Prelude.{pos}
use Rattle.rdm_profile.specs.declared.profile.SensorDef.{SensorDef}
use Rattle.rdm_added.specs.declared.state.Measured.{Measured}
use Rattle.rdm_added.specs.Map.{Entry, entry}
use Rattle.rdm_added.specs.Parameters.{sensors_at_start}
use Rattle.rdm_added.specs.Views.State.{sensor_entries}

-- a sensor that has measured nothing
abbrev pub unmeasured : Measured
unmeasured = record { present = pos 0; lowest = pos 0; highest = pos 0; recorded = pos 0 }

start_from : (n : ℕ) (ds : List SensorDef) → sensor_entries n (replicate (length ds) unmeasured) ≡ sensors_at_start n ds
start_from n [] = refl
start_from n (d ∷ ds) = ap (λ (es : List Entry). entry 0x0201 n (replicate 8 0) ∷ es) (start_from (suc n) ds)

-- as many sensors as the profile has, which have measured nothing
pub sensors_start : (k : ℕ) (ms : List Measured) (ds : List SensorDef) → ms ≡ replicate k unmeasured → k ≡ length ds → sensor_entries 0 ms ≡ sensors_at_start 0 ds
sensors_start k ms ds e f = ap (sensor_entries 0) e ∙ ap (λ (n : ℕ). sensor_entries 0 (replicate n unmeasured)) f ∙ start_from 0 ds

replicate_last : {A : Type 0} (n : ℕ) (x : A) → replicate n x ++ x ∷ [] ≡ replicate (suc n) x
replicate_last zero x = refl
replicate_last (suc n) x = ap (λ xs. x ∷ xs) (replicate_last n x)

pub replicate_push : {A : Type 0} (n : ℕ) (x : A) → replicate n x ++ x ∷ [] ≡ replicate (n + 1) x
replicate_push n x = rw (add-one n) (replicate_last n x)
