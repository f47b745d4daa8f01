-- The headline of a run with workers: what they handed over the report lane, their closes among it.
use Rattle.std.specs.Prelude.{◌≡◌, ℕ, List, [], ◌∷◌, ◌++◌}
use Rattle.rdm_frame.specs.declared.message.Message.{Message}
use Rattle.rdm_responder.specs.declared.report.Report.{Report}
use Rattle.std.specs.List.{flat_map}
use Rattle.rdm_params.specs.Jobs.Work.{Choice, worker_at}
use Rattle.rdm_bus.specs.declared.event.Event.{Event}
use Rattle.rdm_bus.specs.declared.event.Step.{Step}
use Rattle.rdm_bus.specs.declared.event.Step.TheVariants.{Ask, Collect, Arrive, Change}
use Rattle.rdm_bus.specs.Happened.{reports_in}
use Rattle.rdm_bus.specs.Headline.{Handed, Result, Close, Headline, results_in, NothingAfterClose}
use Rattle.rdm_lane.specs.declared.taken.Taken.{Taken}
use Rattle.rdm_lane.specs.declared.taken.Taken.TheVariants.{Item, Mark, Empty, Closed}
use Rattle.rdm_crew.specs.declared.setup.Setup.{Setup}
use Rattle.rdm_crew.specs.declared.step.CrewStep.{CrewStep}
use Rattle.rdm_crew.specs.declared.step.CrewStep.TheVariants as crew
use Rattle.rdm_crew.specs.Setups.{switched_on}

-- What was taken from the report lane, as it is handed to the device: an item is a result, and a mark is the close of the
-- worker whose post it is. What found nothing hands nothing.
abbrev pub handed_by : List (Taken Report) → List Handed
handed_by [] = []
handed_by (Item worker n report ∷ es) = Result report ∷ handed_by es
handed_by (Mark worker ∷ es) = Close worker ∷ handed_by es
handed_by (Empty ∷ es) = handed_by es
handed_by (Closed ∷ es) = handed_by es

-- The worker has closed.
abbrev pub HasClosed : ℕ → List Handed → Type 0
HasClosed worker handed = (before after : List Handed) × (handed ≡ before ++ Close worker ∷ after)

-- What was handed over in a run that has ended with these events, with this choice of workers: their results, with the close of
-- both workers.
pub record IsHandedOver (ws : Choice) (events : List Event) (handed : List Handed) : Type 0 where
  pub enters : reports_in events ≡ results_in handed
  pub nothing_after_close : NothingAfterClose ws handed
  pub first_closed : HasClosed 0 handed
  pub second_closed : HasClosed 1 handed

-- the commands and polls among the steps of a run, as steps of the bus, and those among the steps of a bus
abbrev pub asked_at : CrewStep → List Step
asked_at (crew.Ask c fault) = Ask c fault ∷ []
asked_at (crew.Collect fault) = Collect fault ∷ []
asked_at crew.Draw = []
asked_at (crew.Settle empties) = []
asked_at (crew.Panel empties) = []

abbrev pub asked_on : Step → List Step
asked_on (Ask c fault) = Ask c fault ∷ []
asked_on (Collect fault) = Collect fault ∷ []
asked_on (Arrive report) = []
asked_on (Change change) = []

-- The headline, of a run from the moment that the device is switched on until both workers have closed. What is handed to the
-- device is what was taken from the report lane.
pub record HeadlineOfRun (setup : Setup) (steps : List CrewStep) (taken : List (Taken Report)) (events : List Event) (collected : List Message) : Type 0 where
  pub first_closed : HasClosed 0 (handed_by taken)
  pub second_closed : HasClosed 1 (handed_by taken)
  -- The steps of the bus: its commands and polls are those of the run, in order. The others are arrivals and changes.
  pub bus : List Step
  pub asked : flat_map asked_on bus ≡ flat_map asked_at steps
  pub headline : Headline (switched_on setup) bus (handed_by taken) events collected

-- What the headline of a run rules out: a report that is taken after the mark of the worker whose job it is on.
abbrev pub AfterTheMarkIsRuledOut : Type 0
AfterTheMarkIsRuledOut =
    (setup : Setup) (steps : List CrewStep) (before between after : List (Taken Report)) (producer number : ℕ) (r : Report)
    (events : List Event) (collected : List Message)
    → ¬ HeadlineOfRun setup steps (before ++ Mark (worker_at setup.profile.workers r.job.work) ∷ between ++ Item producer number r ∷ after) events collected
