use Rattle.std.proofs.Common.{◌≡◌, ◌+◌, ◌*◌, ◌++◌, length, drop}
use Rattle.std.specs.Prelude.{flat_map}
use Rattle.rdm_profile.specs.Values.{word_slots}
use Rattle.rdm_saved.proofs.profile_text.append_without.Given as goal

abbrev pub invariant-loop-i : goal.invariant-loop-i
invariant-loop-i l = (l.text ++ flat_map word_slots (drop l.i l.pids) ≡ l.initial.text ++ flat_map word_slots l.pids) × (length l.text ≡ length l.initial.text + 2 * l.i)
