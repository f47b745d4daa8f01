use Rattle.std.proofs.Common.{◌≡◌, ◌*◌, ◌++◌, length, drop}
use Rattle.rdm_device.specs.Columns.Replies.{slot_infos}
use Rattle.rdm_device.proofs.columns.replies.lists.write_infos.Given as goal

abbrev pub invariant-loop-i : goal.invariant-loop-i
invariant-loop-i l = (l.list ++ slot_infos l.i (drop l.i l.slots) ≡ slot_infos 0 l.slots) × (length l.list ≡ 5 * l.i)
