-- A fixture that starts can be counted, and its numbers compared.
use Rattle.std.proofs.Common.{◌≡◌, ℕ, suc, ◌<◌, ◌==◌, List, [], ◌∷◌, length, drop, refl, sym, ap, ◌∙◌, arith, inl, inr}
use Rattle.std.specs.Int.{w16, from_be_bytes}
use Rattle.std.proofs.lemmas.Bool.{cases_Bool, eq-eqb, eqb-true}
use Rattle.std.proofs.lemmas.List.{length-map}
use Rattle.std.proofs.lemmas.Nat.{from_be_bytes-to_be_bytes_2}
use Rattle.std.proofs.lemmas.Slice.Eq.{bytes_eq-Decides}
use Rattle.rdm_profile.specs.declared.profile.Profile.{Profile}
use Rattle.rdm_profile.specs.declared.profile.SensorDef.{SensorDef}
use Rattle.rdm_profile.specs.Values.{word_slots}
use Rattle.rdm_added.specs.declared.state.CommonValues.{CommonValues}
use Rattle.rdm_added.specs.declared.state.RootValues.{RootValues}
use Rattle.rdm_added.specs.declared.state.Measured.{Measured}
use Rattle.rdm_added.specs.Parameters.{added_at_start, own_at_start, sensors_at_start}
use Rattle.rdm_added.specs.Views.State.{added_entries, kept_entry, own_entries, sensor_entries}
use Rattle.rdm_updates.specs.Laws.{AreCounted}
use Rattle.rdm_updates.specs.Updated.{is_same_word}

measured : (n : ℕ) (ms : List Measured) → length (sensor_entries n ms) ≡ length ms
measured n [] = refl
measured n (m ∷ ms) = omega (arith, measured (suc n) ms)

started : (n : ℕ) (ds : List SensorDef) → length (sensors_at_start n ds) ≡ length ds
started n [] = refl
started n (d ∷ ds) = omega (arith, started (suc n) ds)

sensors_same : (p : Profile) (own : RootValues) → own_entries own ≡ own_at_start p → sensor_entries 0 own.sensors.items ≡ sensors_at_start 0 p.sensors.items
unfolding own_entries own_at_start
sensors_same p own e = ap (drop 10) e

pub counted : (p : Profile) (own : RootValues) (subs : List CommonValues) → own_entries own ≡ own_at_start p → added_entries own.added.items ≡ added_at_start p.particulars.own → length subs ≡ p.subs → p.subs < 65536 → length (added_at_start p.particulars.own) < 65536 → AreCounted p own subs
counted p own subs start added many few_devices few = record {
  sensors = sym (measured 0 own.sensors.items) ∙ ap length (sensors_same p own start) ∙ started 0 p.sensors.items;
  devices = many;
  few_devices = few_devices;
  few_kept = omega (arith, few, ap length added, length-map own.added.items kept_entry);
}

word_back : (a b : ℕ) → a < 65536 → b < 65536 → word_slots a ≡ word_slots b → a ≡ b
word_back a b small other e = sym (from_be_bytes-to_be_bytes_2 a small) ∙ ap (from_be_bytes w16) e ∙ from_be_bytes-to_be_bytes_2 b other

pub compared : (a b : ℕ) → a < 65536 → b < 65536 → is_same_word a b ≡ (a == b)
compared a b small other = elim (cases_Bool (is_same_word a b)) [
  | inl same ↦ same ∙ sym (eq-eqb a b (word_back a b small other ((bytes_eq-Decides _ _).0 same)))
  | inr differ ↦ elim (cases_Bool (a == b)) [
    | inl equal ↦ ap (λ (n : ℕ). is_same_word n b) (eqb-true a b equal) ∙ (bytes_eq-Decides (word_slots b) (word_slots b)).1 refl ∙ sym equal
    | inr unequal ↦ differ ∙ sym unequal
  ]
]
