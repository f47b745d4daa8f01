use Rattle.std.proofs.Common.{◌≡◌, length, map, take}
use Rattle.rdm_c.proofs.profile.lists.keep.Given as goal

-- those before this one stand in the list
abbrev pub invariant-loop-number : goal.invariant-loop-number
invariant-loop-number g l =
    (g.L.InMemory.entries l.list ≡ map g.E.Numbers.stands_for (take l.number-index l.numbers))
    × (length (g.L.InMemory.entries l.list) ≡ l.number-index)
