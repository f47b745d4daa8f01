use Rattle.std.proofs.Common.{◌≡◌, ◌*◌, ◌++◌, length, drop}
use Rattle.std.specs.Prelude.{flat_map}
use Rattle.rdm_profile.specs.Values.{word_slots}
use Rattle.rdm_device.proofs.columns.replies.lists.write_codes.Given as goal

abbrev pub invariant-loop-i : goal.invariant-loop-i
invariant-loop-i l = (l.list ++ flat_map word_slots (drop l.i l.languages) ≡ flat_map word_slots l.languages) × (length l.list ≡ 2 * l.i)
