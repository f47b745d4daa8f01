use Rattle.rdm_lane.specs.Ends.{IsSamePost}
use Rattle.rdm_lane_tests.proofs.tests.threads.puts_from.Given as goal

abbrev pub invariant-loop-number : goal.invariant-loop-number
invariant-loop-number g l = IsSamePost l.fn.post l.post
