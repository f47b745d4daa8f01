use Rattle.std.proofs.Common.{◌≡◌, ◌+◌, ◌≤◌, length, sum}
use Rattle.rdm_frame.proofs.encoding.sum_of.Given as goal

-- what was added and what is left make up the sum
abbrev pub invariant-loop-part : goal.invariant-loop-part
invariant-loop-part l = record {
  whole : l.total + sum l.rest ≡ sum l.fn.slots;
  shorter : length l.rest ≤ 257;
}

abbrev pub decreases-loop-part : goal.decreases-loop-part
decreases-loop-part l = length l.rest
