use Rattle.rdm_lane.specs.Ends.{IsSamePost}
use Rattle.rdm_memory_tests.proofs.turns.puts.Given as goal

abbrev pub invariant-loop : goal.invariant-loop
invariant-loop g l = IsSamePost l.fn.post l.post
