use Rattle.std.proofs.Common.{◌≡◌, ◌++◌}
use Rattle.rdm_fixture.proofs.modes.slot_list.Given as goal

-- those that were moved, and then those that weren't
abbrev pub invariant-loop-slot : goal.invariant-loop-slot
invariant-loop-slot l = l.list.items ++ l.slot-iterator ≡ l.fn.slots.items
