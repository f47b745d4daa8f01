use Rattle.std.proofs.Common.{◌≡◌, length, replicate}
use Rattle.rdm_describe.proofs.own.zeros.Given as goal

-- those so far
abbrev pub invariant-loop-i : goal.invariant-loop-i
invariant-loop-i l = record { value : l.slots ≡ replicate l.i 0; count : length l.slots ≡ l.i }
