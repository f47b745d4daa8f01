use Rattle.std.proofs.Common.{◌≡◌, map, take}
use Rattle.arrayvec.specs.ArrayVec.{array_vec_len}
use Rattle.rdm_c.proofs.profile.lists.fill.Given as goal

-- those before this one stand in the list
abbrev pub invariant-loop-number : goal.invariant-loop-number
invariant-loop-number g l =
    (l.list.items ≡ map g.E.Numbers.stands_for (take l.number-index l.numbers)) × (array_vec_len l.list ≡ l.number-index)
