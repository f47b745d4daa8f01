use Rattle.std.proofs.Common.{◌≡◌, ◌^◌, sum, take}
use Rattle.std.specs.Prelude.{◌%◌}
use Rattle.rdm_saved.proofs.saving.sum_of.Given as goal

-- what was added so far
abbrev pub invariant-loop-byte : goal.invariant-loop-byte
invariant-loop-byte l = l.total ≡ sum (take l.byte-index l.bytes) % 2 ^ 32
