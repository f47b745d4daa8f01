-- What a controller sends in a run of the bus: the numbers of its transactions, and what its polls ask for. E1.20 sections
-- 6.2.6 and 10.3.1.
use Rattle.std.specs.Prelude.{◌≡◌, ℕ, ◌+◌, ◌%◌, Bool, true, false, not, if◌then◌else◌, List, [], ◌∷◌, ◌++◌, slice_get, Option, Some}
use Rattle.std.specs.List.{flat_map}
use Rattle.rdm_frame.specs.declared.frame.Frame.{Frame}
use Rattle.rdm_frame.specs.FrameText.{frame_text, IsFrame}
use Rattle.rdm_frame.specs.declared.fault.Fault.{Fault}
use Rattle.rdm_outbox.specs.declared.job.Job.{Job}
use Rattle.rdm_outbox.specs.Jobs.{jobs_of, number_after}
use Rattle.rdm_responder.specs.History.{History}
use Rattle.rdm_responder.specs.Runs.{outbox_of}
use Rattle.rdm_bus.specs.declared.event.Event.{Event}
use Rattle.rdm_bus.specs.declared.event.Event.TheVariants.{Bus, Arrived, Changed}
use Rattle.rdm_bus.specs.declared.event.Step.{Step}
use Rattle.rdm_collector.specs.declared.transaction.Heard.{Heard}
use Rattle.rdm_collector.specs.Requests.{type_of, request_of, queued_message}
use Rattle.rdm_bus.specs.BusRun.{Start, is_message_heard, IsBusRun}

-- the bytes that the controller sends in an event, and in all of them
abbrev pub sent_in : Event → List (List ℕ)
sent_in (Bus sent poll fault reply job heard) = sent ∷ []
sent_in (Arrived report message kept) = []
sent_in (Changed change message) = []

abbrev pub requests_in : List Event → List (List ℕ)
requests_in events = flat_map sent_in events

-- The request is the text of a frame with this transaction number.
pub record HasNumber (tn : ℕ) (sent : List ℕ) : Type 0 where
  pub frame : Frame
  pub is_frame : IsFrame frame
  pub text : sent ≡ frame_text frame
  pub number : frame.tn ≡ tn

-- The n-th request has the first number plus n, modulo 256.
abbrev pub AreNumbered : Start → List Event → Type 0
AreNumbered start events =
    (n : ℕ) (sent : List ℕ) → slice_get (requests_in events) n ≡ Some sent → HasNumber ((start.tn + n) % 256) sent

-- of a poll, whether its reply was heard as a message
abbrev pub answered_in : Event → List Bool
answered_in (Bus sent true fault reply job heard) = is_message_heard heard ∷ []
answered_in (Bus sent false fault reply job heard) = []
answered_in (Arrived report message kept) = []
answered_in (Changed change message) = []

-- the last of these, or the first argument if there is none
abbrev pub last_answer : Bool → List Bool → Bool
last_answer before [] = before
last_answer before (x ∷ xs) = last_answer x xs

-- Whether the last poll was heard as a message. Before the first poll it is whether none was unanswered at the start.
abbrev pub was_answered : Start → List Event → Bool
was_answered start before = last_answer (not start.unanswered) (flat_map answered_in before)

-- The status type that a poll asks for after these events: what is wanted, exactly when the last poll before it was heard
-- as a message; else the last message again (STATUS_GET_LAST_MESSAGE of table A-4).
abbrev pub type_after : Start → List Event → ℕ
type_after start before = if was_answered start before then type_of start.want else 0x01

-- Each poll asks the target for QUEUED_MESSAGE with that type.
abbrev pub PollsAskInTurn : Start → List Event → Type 0
PollsAskInTurn start events =
    (before after : List Event) (sent : List ℕ) (fault : Fault) (reply : Option (List ℕ)) (job : Option Job) (heard : Option Heard)
    → events ≡ before ++ Bus sent true fault reply job heard ∷ after
    → (tn : ℕ) × (sent ≡ frame_text (request_of start.uid tn (queued_message start.target (type_after start before))))

-- Both hold of every run.
abbrev pub NumberingHolds : Type 0
NumberingHolds = (start : Start) (steps : List Step) (events : List Event) → IsBusRun start steps events → AreNumbered start events

abbrev pub PollingInTurnHolds : Type 0
PollingInTurnHolds = (start : Start) (steps : List Step) (events : List Event) → IsBusRun start steps events → PollsAskInTurn start events

-- The number of the k-th job of a worker that a device has accepted, from 0, comes k after the first number of its setup,
-- whatever has happened to the device.
abbrev pub JobsAreNumbered : Type 0
JobsAreNumbered =
    (h : History) (worker k : ℕ) (job : Job) → slice_get (jobs_of (outbox_of h).workers worker (outbox_of h).accepted) k ≡ Some job
    → job.number ≡ number_after h.setup.first_job k

-- So no two jobs of a worker have the same number.
abbrev pub NumbersDiffer : Type 0
NumbersDiffer =
    (h : History) (worker i k : ℕ) (job other : Job) → slice_get (jobs_of (outbox_of h).workers worker (outbox_of h).accepted) i ≡ Some job
    → slice_get (jobs_of (outbox_of h).workers worker (outbox_of h).accepted) k ≡ Some other → job.number ≡ other.number → i ≡ k
