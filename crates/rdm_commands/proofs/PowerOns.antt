-- The values after one more power cycle.
use Rattle.std.proofs.Common.{◌≡◌, ◌<◌, ◌+◌, ◌^◌, ℕ, ◌++◌, min, refl, ap, ◌∙◌, sym}
use Rattle.std.proofs.lemmas.Nat.{from_be_bytes-to_be_bytes_4}
use Rattle.rdm_added.specs.declared.state.CommonValues.{CommonValues}
use Rattle.rdm_added.specs.declared.state.RootValues.{RootValues}
use Rattle.rdm_added.specs.Map.{update}
use Rattle.rdm_profile.specs.Values.{long_slots}
use Rattle.rdm_added.specs.Views.State.{common_entries, own_entries}
use Rattle.rdm_device.proofs.Sensors.{sensors_stay}
use Rattle.rdm_commands.specs.Commands.Saving.{counted, one_more}

-- the root counts one more
pub root_counts : (d : CommonValues) (o : RootValues) (count : ℕ) → long_slots count ≡ one_more (long_slots o.power_cycles) → common_entries d ++ own_entries (record o { power_cycles = count }) ≡ update counted (common_entries d ++ own_entries o)
unfolding common_entries own_entries
root_counts d o count e = rw (e, sensors_stay counted 0 o.sensors.items (λ i bytes. refl)) refl

-- a number and one more, as bytes
pub one_more_is : (n more : ℕ) → n < 2 ^ 32 → more ≡ min (n + 1) 4294967295 → long_slots more ≡ one_more (long_slots n)
one_more_is n more lt e = ap long_slots (e ∙ ap (λ (k : ℕ). min (k + 1) 4294967295) (sym (from_be_bytes-to_be_bytes_4 n lt)))
