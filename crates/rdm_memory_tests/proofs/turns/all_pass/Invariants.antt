use Rattle.rdm_lane.specs.Ends.{IsSameTake, IsSamePost}
use Rattle.rdm_memory_tests.proofs.turns.all_pass.Given as goal

abbrev pub invariant-loop-item : goal.invariant-loop-item
invariant-loop-item g l = IsSameTake l.fn.take l.take × IsSamePost l.fn.post l.post
