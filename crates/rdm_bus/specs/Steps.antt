-- The step that a lent one stands for.
use Rattle.rdm_bus.specs.declared.event.Step.{Step}
use Rattle.rdm_bus.specs.declared.event.Step.TheVariants.{Ask, Collect, Arrive, Change}
use Rattle.rdm_bus.specs.declared.event.StepRef.{StepRef}
use Rattle.rdm_bus.specs.declared.event.StepRef.TheVariants as lent

abbrev pub step_of : StepRef → Step
step_of (lent.Ask c fault) = Ask c.now fault
step_of (lent.Collect fault) = Collect fault
step_of (lent.Arrive report) = Arrive report
step_of (lent.Change change) = Change change
