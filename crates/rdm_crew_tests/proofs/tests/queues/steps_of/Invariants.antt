use Rattle.rdm_crew.specs.RunTrace.{HaveFaults}
use Rattle.rdm_crew_tests.proofs.tests.queues.steps_of.Given as goal

abbrev pub invariant-loop : goal.invariant-loop
invariant-loop l = HaveFaults l.steps.items
