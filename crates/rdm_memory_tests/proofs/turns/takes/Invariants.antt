use Rattle.rdm_lane.specs.Ends.{IsSameTake}
use Rattle.rdm_memory_tests.proofs.turns.takes.Given as goal

abbrev pub invariant-loop : goal.invariant-loop
invariant-loop g l = IsSameTake l.fn.take l.take
