use Rattle.rdm_lane.specs.Ends.{IsSameTake}
use Rattle.rdm_memory_tests.proofs.turns.gives.Given as goal

abbrev pub invariant-loop-answer : goal.invariant-loop-answer
invariant-loop-answer g l = IsSameTake l.fn.take l.take
