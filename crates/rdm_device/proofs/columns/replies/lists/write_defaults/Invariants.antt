use Rattle.std.proofs.Common.{◌≡◌, ◌*◌, ◌++◌, length, drop}
use Rattle.rdm_device.specs.Columns.Replies.{slot_defaults}
use Rattle.rdm_device.proofs.columns.replies.lists.write_defaults.Given as goal

abbrev pub invariant-loop-i : goal.invariant-loop-i
invariant-loop-i l = (l.list ++ slot_defaults l.i (drop l.i l.slots) ≡ slot_defaults 0 l.slots) × (length l.list ≡ 3 * l.i)
