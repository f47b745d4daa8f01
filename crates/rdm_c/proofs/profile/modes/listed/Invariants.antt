use Rattle.std.proofs.Common.{◌≡◌, map, take}
use Rattle.rdm_c.specs.Modes.{slot_in}
use Rattle.rdm_c.proofs.profile.modes.listed.Given as goal

-- those before this one stand in the list
abbrev pub invariant-loop-number : goal.invariant-loop-number
invariant-loop-number l = l.slots.items ≡ map slot_in (take l.number-index l.numbers)
