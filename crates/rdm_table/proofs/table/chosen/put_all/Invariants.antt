use Rattle.std.proofs.Common.{◌≡◌, ◌*◌, ◌++◌, length, drop}
use Rattle.std.specs.Prelude.{flat_map}
use Rattle.rdm_profile.specs.Values.{word_slots}
use Rattle.rdm_table.proofs.table.chosen.put_all.Given as goal

abbrev pub invariant-loop-i : goal.invariant-loop-i
invariant-loop-i l = (l.list ++ flat_map word_slots (drop l.i l.pids) ≡ flat_map word_slots l.pids) × (length l.list ≡ 2 * l.i)
