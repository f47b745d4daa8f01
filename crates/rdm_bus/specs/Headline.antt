-- The headline: what is promised of a device on a bus, and of the controller that collects its messages.
--
--     For every list of commands, collections, bus faults, panel changes and worker outcomes, each reply is the one that
--     the reply rules give; each accepted job's result enters the queue at most once, in its worker's order, nothing after
--     its close; and what the collector recorded, adjacent equal messages joined, is a prefix of what the responder
--     dispensed, joined likewise, at most one message shorter.
--
-- `Headline` says it of a run, field by field in the order of the sentence. `System::play` has it of what was played so far,
-- without threads, and `run` of a run with two workers and a panel. Its premises:
--
-- * The run was answered with Ok. A step that is refused changes nothing, so `play` has it after each step.
-- * A reply is heard in its own transaction or never, and an altered frame has exactly one slot altered: a fault of a step
--   is nothing else, and if it raises a slot, it raises it by 1 to 255. Who calls `play` or `run` sees to that.
-- * The outcomes that a part of a run gives fit the jobs of its worker. Who calls `run` sees to that too.
-- * This controller alone fetches messages: `play` and `run` refuse a command for QUEUED_MESSAGE or STATUS_MESSAGES.
-- * The device is switched on once, and whatever has happened to it before the start was lawful: `IsLawful`.
-- * Calls that wait for another thread return.
use Rattle.std.specs.Prelude.{◌≡◌, ◌≢◌, ℕ, Bool, false, Option, ◌+◌, ◌≤◌, List, [], ◌∷◌, ◌++◌, length, map, slice_get, Some}
use Rattle.rdm_frame.specs.declared.message.Message.{Message}
use Rattle.rdm_frame.specs.declared.fault.Fault.{Fault}
use Rattle.rdm_frame.specs.declared.fault.Fault.TheVariants as fault
use Rattle.rdm_params.specs.Jobs.Commit.{committed}
use Rattle.rdm_params.specs.Jobs.Work.{Choice, worker_at}
use Rattle.rdm_outbox.specs.declared.job.Job.{Job}
use Rattle.rdm_outbox.specs.Jobs.{jobs_of, outstanding_of}
use Rattle.rdm_responder.specs.declared.report.Report.{Report}
use Rattle.rdm_responder.specs.History.{History}
use Rattle.rdm_responder.specs.Lawful.{IsLawful}
use Rattle.rdm_responder.specs.Rules.{account_of}
use Rattle.rdm_responder.specs.Runs.{outbox_of}
use Rattle.rdm_bus.specs.declared.event.Event.{Event}
use Rattle.rdm_bus.specs.declared.event.Event.TheVariants.{Bus, Arrived, Changed}
use Rattle.rdm_bus.specs.declared.event.Step.{Step}
use Rattle.rdm_bus.specs.declared.event.Step.TheVariants.{Collect}
use Rattle.rdm_collector.specs.declared.transaction.Heard.{Heard}
use Rattle.rdm_bus.specs.BusRun.{Start, replied, after, after_all, IsBusRun}
use Rattle.rdm_bus.specs.BusLaws.{dispensed, recorded}
use Rattle.rdm_bus.specs.Happened.{jobs_in, reports_in, reports_of, reported_in}
use Rattle.rdm_bus.specs.Messages.{KeepsMessages}
use Rattle.rdm_collector.specs.Recording.{join, same_message}

-- ---- each reply

-- The reply to a transaction is the one that the reply rules give, after this history, for what the device heard of the
-- request; if they give none, there is none. E1.20 sections 6.2 and 6.3.
abbrev pub IsByTheRules : History → Event → Type 0
IsByTheRules h (Bus sent poll fault reply job heard) = reply ≡ replied h fault sent
IsByTheRules h (Arrived report message kept) = Unit {0}
IsByTheRules h (Changed change message) = Unit {0}

-- Each reply is, after all that has happened before it.
abbrev pub RepliesAreByTheRules : Start → List Event → Type 0
RepliesAreByTheRules s [] = Unit {0}
RepliesAreByTheRules s (event ∷ events) = IsByTheRules s.history event × RepliesAreByTheRules (after s event) events

-- ---- each accepted job's result

-- What is handed to a device: the result of a job, which enters its queue, or word that a worker has closed.
pub data Handed : Type 0 where
  Result : Report → Handed
  Close : (worker : ℕ) → Handed

-- the results among them
abbrev pub results_in : List Handed → List Report
results_in [] = []
results_in (Result report ∷ handed) = report ∷ results_in handed
results_in (Close worker ∷ handed) = results_in handed

-- the results of a caller who hands them in himself: no worker closes
abbrev pub unclosed : List Report → List Handed
unclosed reports = map Result reports

-- No two of these results are of the same job.
abbrev pub AreOnce : List Report → Type 0
AreOnce results =
    (i k : ℕ) (r s : Report) → slice_get results i ≡ Some r → slice_get results k ≡ Some s → r.job ≡ s.job → i ≡ k

-- which worker has which jobs of the device: what its profile says
abbrev pub choice_of : Start → Choice
choice_of start = (outbox_of start.history).workers

-- the results of a worker that entered the queue, in the order in which they did
abbrev pub entered : Start → ℕ → List Event → List Report
entered start worker events = reports_of (choice_of start) worker (reports_in events)

-- The results of a worker are of its jobs in the order in which these were accepted: those that were outstanding at the
-- start, and then those that were accepted since. The jobs that are left are outstanding.
abbrev pub IsInOrder : ℕ → Start → List Event → Type 0
IsInOrder worker start events =
    map (λ r. r.job) (entered start worker events) ++ outstanding_of (outbox_of (after_all start events).history) worker
    ≡ outstanding_of (outbox_of start.history) worker ++ jobs_of (choice_of start) worker (jobs_in events)

-- Wherever a worker closes, none of its results is still to come.
abbrev pub NothingAfterClose : Choice → List Handed → Type 0
NothingAfterClose ws [] = Unit {0}
NothingAfterClose ws (Result report ∷ handed) = NothingAfterClose ws handed
NothingAfterClose ws (Close worker ∷ handed) = (reports_of ws worker (results_in handed) ≡ []) × NothingAfterClose ws handed

-- ---- what the collector recorded

-- the first messages of a list, or all of them
abbrev pub IsPrefix : List Message → List Message → Type 0
IsPrefix front all = (rest : List Message) × (front ++ rest ≡ all)

-- ---- the headline

-- Of a run from this start: its steps, what was handed to the device, what happened, and what was collected.
pub record Headline (start : Start) (steps : List Step) (handed : List Handed) (events : List Event) (collected : List Message) : Type 0 where
  -- For every list of commands, collections, bus faults, panel changes and worker outcomes, which are the steps: what happens
  -- at each is what comes of it. Its request is sent, a collection is a poll, and it is heard as what reaches the controller
  -- must be; its report arrives, and its change happens, with the message that tells of it.
  pub of_the_steps : IsBusRun start steps events
  -- Each reply is the one that the reply rules give;
  pub each_reply : RepliesAreByTheRules start events
  -- each accepted job's result enters the queue: each that was handed in has arrived, and its message waits there, until it
  -- is given or the newer message of a change replaces it, where the profile asks for the newest only and both tell of the same,
  pub enters : reports_in events ≡ results_in handed
  pub in_the_queue : KeepsMessages start events
  -- at most once,
  pub at_most_once : (worker : ℕ) → AreOnce (entered start worker events)
  -- in its worker's order,
  pub in_order : (worker : ℕ) → IsInOrder worker start events
  -- nothing after its close;
  pub nothing_after_close : NothingAfterClose (choice_of start) handed
  -- and what the collector recorded, which is the message of each poll that was heard as one,
  pub what_was_heard : collected ≡ recorded events
  -- adjacent equal messages joined, is a prefix of what the responder dispensed, joined likewise,
  pub prefix : IsPrefix (join collected) (join (dispensed events))
  -- at most one message shorter.
  pub at_most_one_shorter : length (join (dispensed events)) ≤ length (join collected) + 1

-- The headline holds of every run of the bus after whatever has lawfully happened to the device: of the device of the reply
-- rules, and of the collector that records what it hears. What was handed in are the reports of the steps.
abbrev pub HeadlineHolds : Type 0
HeadlineHolds =
    (start : Start) (steps : List Step) (events : List Event) → IsLawful start.history → IsBusRun start steps events
    → Headline start steps (unclosed (reported_in steps)) events (recorded events)

-- ---- what the headline rules out

-- A device that lets the result of a job into its queue twice.
abbrev pub TwiceIsRuledOut : Type 0
TwiceIsRuledOut =
    (start : Start) (steps : List Step) (handed : List Handed) (events : List Event) (collected : List Message) (worker : ℕ) (r s : Report)
    → entered start worker events ≡ r ∷ s ∷ [] → r.job ≡ s.job → ¬ Headline start steps handed events collected

-- A device that lets the result of a worker's second job into its queue before that of the first.
abbrev pub LaterFirstIsRuledOut : Type 0
LaterFirstIsRuledOut =
    (start : Start) (steps : List Step) (handed : List Handed) (events : List Event) (collected : List Message) (worker : ℕ) (r : Report)
    (first second : Job) (more : List Job) → outstanding_of (outbox_of start.history) worker ≡ first ∷ second ∷ more
    → entered start worker events ≡ r ∷ [] → r.job ≡ second → first ≢ second → ¬ Headline start steps handed events collected

-- A device that answers a request that it hasn't heard.
abbrev pub AnsweringTheUnheardIsRuledOut : Type 0
AnsweringTheUnheardIsRuledOut =
    (start : Start) (steps : List Step) (handed : List Handed) (events : List Event) (collected : List Message) (sent reply : List ℕ) (poll : Bool)
    (job : Option Job) (heard : Option Heard)
    → ¬ Headline start steps handed (Bus sent poll fault.LostRequest (Some reply) job heard ∷ events) collected

-- A result that is handed in after its worker's close.
abbrev pub AfterTheCloseIsRuledOut : Type 0
AfterTheCloseIsRuledOut =
    (start : Start) (steps : List Step) (events : List Event) (collected : List Message) (r : Report)
    → ¬ Headline start steps (Close (worker_at (choice_of start) r.job.work) ∷ Result r ∷ []) events collected

-- A collector that skips a message, as it does when it asks for the next one after a loss.
abbrev pub SkippingIsRuledOut : Type 0
SkippingIsRuledOut =
    (start : Start) (steps : List Step) (handed : List Handed) (events : List Event) (lost next : Message)
    → dispensed events ≡ lost ∷ next ∷ [] → same_message lost next ≡ false → ¬ Headline start steps handed events (next ∷ [])

-- A collector that records nothing.
abbrev pub RecordingNothingIsRuledOut : Type 0
RecordingNothingIsRuledOut =
    (start : Start) (steps : List Step) (handed : List Handed) (events : List Event) (first second : Message)
    → dispensed events ≡ first ∷ second ∷ [] → same_message first second ≡ false → ¬ Headline start steps handed events []

-- A collector that records a message twice.
abbrev pub RecordingTwiceIsRuledOut : Type 0
RecordingTwiceIsRuledOut =
    (start : Start) (steps : List Step) (handed : List Handed) (events : List Event) (m : Message)
    → recorded events ≡ m ∷ [] → ¬ Headline start steps handed events (m ∷ m ∷ [])

-- A collector that drops the second of two equal messages, though both were dispensed and heard.
abbrev pub DroppingAnEqualOneIsRuledOut : Type 0
DroppingAnEqualOneIsRuledOut =
    (start : Start) (steps : List Step) (handed : List Handed) (events : List Event) (m : Message)
    → dispensed events ≡ m ∷ m ∷ [] → recorded events ≡ m ∷ m ∷ [] → ¬ Headline start steps handed events (m ∷ [])

-- A system that books a poll as no poll, and so has nothing dispensed.
abbrev pub BookingNoPollIsRuledOut : Type 0
BookingNoPollIsRuledOut =
    (start : Start) (steps : List Step) (handed : List Handed) (events : List Event) (collected : List Message) (wrong : Fault)
    (sent : List ℕ) (fault : Fault) (reply : Option (List ℕ)) (job : Option Job) (heard : Option Heard)
    → ¬ Headline start (Collect wrong ∷ steps) handed (Bus sent false fault reply job heard ∷ events) collected

-- A device whose message isn't that of the job's outcome.
abbrev pub AnotherMessageIsRuledOut : Type 0
AnotherMessageIsRuledOut =
    (start : Start) (steps : List Step) (handed : List Handed) (events : List Event) (collected : List Message) (r : Report)
    (m : Message) (kept : Bool) → m ≢ committed (account_of start.history).parameters r.job.work r.outcome
    → ¬ Headline start steps handed (Arrived r m kept ∷ events) collected
