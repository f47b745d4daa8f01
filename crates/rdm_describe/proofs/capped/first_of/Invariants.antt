use Rattle.std.proofs.Common.{◌≡◌, take}
use Rattle.rdm_describe.proofs.capped.first_of.Given as goal

-- the first of those so far
abbrev pub invariant-loop-item : goal.invariant-loop-item
invariant-loop-item g l = l.first.items ≡ take g.row.N l.yielded
