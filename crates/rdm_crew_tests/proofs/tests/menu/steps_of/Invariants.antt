use Rattle.rdm_crew.specs.RunTrace.{HaveFaults}
use Rattle.rdm_crew_tests.proofs.tests.menu.steps_of.Given as goal

abbrev pub invariant-loop : goal.invariant-loop
invariant-loop l = HaveFaults l.steps.items

abbrev pub invariant-loop-2 : goal.invariant-loop-2
invariant-loop-2 l = HaveFaults l.steps.items
