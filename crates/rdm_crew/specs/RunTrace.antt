-- A run with two workers: the events of the bus, cut into a piece for each step and a last piece, and the reports of each
-- worker on its jobs.
use Rattle.std.specs.Prelude.{◌≡◌, ◌≢◌, ℕ, ◌≤◌, List, [], ◌∷◌, ◌++◌, length, All, slice_get, true, Option, Some, None}
use Rattle.std.specs.Option.{option_or}
use Rattle.rdm_frame.specs.declared.fault.Fault.{Fault}
use Rattle.rdm_frame.specs.declared.fault.Fault.TheVariants as fault
use Rattle.rdm_frame.specs.Faults.{raise_of}
use Rattle.rdm_commands.specs.declared.panel.Change.{Change}
use Rattle.rdm_commands.specs.declared.jobs.outcome.Outcome.{Outcome}
use Rattle.rdm_params.specs.Table.Rows.{command_of}
use Rattle.rdm_params.specs.Jobs.Outcome.{fits}
use Rattle.rdm_params.specs.Jobs.Work.{Choice, worker_at}
use Rattle.rdm_params.specs.Table.Uses.{is_slow}
use Rattle.rdm_outbox.specs.declared.job.Job.{Job}
use Rattle.rdm_outbox.specs.Jobs.{jobs_of, outstanding_count}
use Rattle.rdm_responder.specs.declared.report.Report.{Report}
use Rattle.rdm_responder.specs.Runs.{outbox_of}
use Rattle.rdm_bus.specs.declared.event.Event.{Event}
use Rattle.rdm_bus.specs.declared.event.Step.TheVariants as bus
use Rattle.rdm_bus.specs.declared.system.PlayError.{PlayError}
use Rattle.rdm_bus.specs.BusRun.{Start, IsPlayed, after, after_all}
use Rattle.rdm_bus.specs.Happened.{jobs_in, reports_in, changes_in, reports_of}
use Rattle.rdm_bus.specs.Systems.{refusal_in}
use Rattle.rdm_crew.specs.declared.setup.Setup.{Setup}
use Rattle.rdm_crew.specs.declared.step.CrewStep.{CrewStep}
use Rattle.rdm_crew.specs.declared.step.CrewStep.TheVariants.{Ask, Collect, Draw, Settle, Panel}
use Rattle.rdm_crew.specs.Setups.{switched_on}
use Rattle.rdm_crew.specs.Watchers.{AreOffered}
use Rattle.rdm_crew.specs.Workers.{Answers}

-- ---- pieces

-- Reports arrive, and nothing else happens.
abbrev pub AreArrivals : Start → List Event → Type 0
AreArrivals s [] = Unit {0}
AreArrivals s (e ∷ es) = ((r : Report) × IsPlayed s (bus.Arrive r) e) × AreArrivals (after s e) es

-- Reports arrive until no job is outstanding.
abbrev pub AreLast : Start → List Event → Type 0
AreLast s es = AreArrivals s es × (outstanding_count (outbox_of (after_all s es).history) ≡ 0)

-- Changes at the fixture's panel happen, and nothing else happens.
abbrev pub AreChanges : Start → List Event → Type 0
AreChanges s [] = Unit {0}
AreChanges s (e ∷ es) = ((c : Change) × IsPlayed s (bus.Change c) e) × AreChanges (after s e) es

-- What happens at a step: a command or a poll is one transaction; at most one report arrives; reports arrive until no
-- job is outstanding; or at most one change happens.
abbrev pub IsPiece : Start → CrewStep → List Event → Type 0
IsPiece s (Ask c fault) es = (event : Event) × (es ≡ event ∷ []) × IsPlayed s (bus.Ask c fault) event
IsPiece s (Collect fault) es = (event : Event) × (es ≡ event ∷ []) × IsPlayed s (bus.Collect fault) event
IsPiece s Draw es = AreArrivals s es × (length es ≤ 1)
IsPiece s (Settle empties) es = AreLast s es
IsPiece s (Panel empties) es = AreChanges s es × (length es ≤ 1)

-- There is a piece for each step, in order. After the last step reports arrive until no job is outstanding.
abbrev pub IsCut : Start → List CrewStep → List Event → Type 0
IsCut s [] es = AreLast s es
IsCut s (step ∷ steps) es =
    (piece : List Event) × (rest : List Event) × (es ≡ piece ++ rest) × IsPiece s step piece × IsCut (after_all s piece) steps rest

-- ---- jobs and reports

-- The reports of a worker, by this choice, that arrived are on its jobs, in their order, each with an outcome that its part gives after
-- the jobs before, and every job has one.
pub record IsAnswered (ws : Choice) (worker : ℕ) (gives : List Job → Job → Outcome → Type 0) (events : List Event) : Type 0 where
  pub answers : Answers gives (jobs_of ws worker (jobs_in events)) (reports_of ws worker (reports_in events))
  pub all : length (jobs_of ws worker (jobs_in events)) ≡ length (reports_of ws worker (reports_in events))

-- ---- runs

-- A run of a setup, of the first worker's part and the second's, of what the panel offers, and of these steps, from the
-- moment that the device is switched on. The changes that happened are offered for 0, 1, 2 and so on.
pub record IsRunTrace (setup : Setup) (gives_0 gives_1 : List Job → Job → Outcome → Type 0) (offers : ℕ → Change → Type 0) (steps : List CrewStep) (events : List Event) : Type 0 where
  pub cut : IsCut (switched_on setup) steps events
  pub first : IsAnswered setup.profile.workers 0 gives_0 events
  pub second : IsAnswered setup.profile.workers 1 gives_1 events
  pub changes : AreOffered offers 0 (changes_in events)

-- ---- refusals

-- why a step is never played: its parameter ID is reserved, or its data don't fit a frame
abbrev pub refusal_at : CrewStep → Option PlayError
refusal_at (Ask c fault) = refusal_in (bus.Ask c fault)
refusal_at (Collect fault) = None
refusal_at Draw = None
refusal_at (Settle empties) = None
refusal_at (Panel empties) = None

-- why steps are never all played: the first that isn't
abbrev pub first_refusal : List CrewStep → Option PlayError
first_refusal [] = None
first_refusal (step ∷ steps) = option_or (refusal_at step) (first_refusal steps)

-- a Settle is among the steps
abbrev pub HasSettle : List CrewStep → Type 0
HasSettle steps = (k empties : ℕ) × (slice_get steps k ≡ Some (Settle empties))

-- what goes wrong at a step
abbrev pub fault_at : CrewStep → Fault
fault_at (Ask c fault) = fault
fault_at (Collect fault) = fault
fault_at Draw = fault.None
fault_at (Settle empties) = fault.None
fault_at (Panel empties) = fault.None

-- No fault of the steps raises a slot by 0.
abbrev pub HaveFaults : List CrewStep → Type 0
HaveFaults steps = All (λ step. raise_of (fault_at step) ≢ Some 0) steps

-- ---- parts

-- A part gives only outcomes that fit, for the slow commands that a worker has by this choice.
abbrev pub FitsFor : Choice → ℕ → (Job → Outcome → Type 0) → Type 0
FitsFor ws worker gives =
    (j : Job) (o : Outcome) → is_slow (command_of j.work.pid j.work.verb) ≡ true → worker_at ws j.work ≡ worker → gives j o → fits j.work o ≡ true
