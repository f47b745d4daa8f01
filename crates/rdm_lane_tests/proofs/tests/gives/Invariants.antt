use Rattle.rdm_lane.specs.Ends.{IsSameTake}
use Rattle.rdm_lane_tests.proofs.tests.gives.Given as goal

abbrev pub invariant-loop-answer : goal.invariant-loop-answer
invariant-loop-answer g l = IsSameTake l.fn.take l.take
