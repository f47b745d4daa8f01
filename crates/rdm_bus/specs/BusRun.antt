-- A run of the bus: a controller sends commands and polls to a device, one transaction at a time, with what goes wrong on
-- the bus, and between them the reports of the device's jobs arrive, and a person changes values at the device's own menu.
-- E1.20 sections 6.2 and 10.3.1.
use Rattle.std.specs.Prelude.{◌≡◌, ℕ, ◌+◌, ◌%◌, ◌<◌, Bool, true, false, not, List, [], ◌∷◌, fold, Option, Some, None, IfSome}
use Rattle.std.specs.Option.{option_map, option_map_or, option_and_then}
use Rattle.rdm_frame.specs.declared.uid.Uid.{Uid}
use Rattle.rdm_frame.specs.declared.frame.Frame.{Frame}
use Rattle.rdm_frame.specs.FrameText.{frame_text, IsFrame}
use Rattle.rdm_frame.specs.declared.fault.Fault.{Fault}
use Rattle.rdm_frame.specs.declared.fault.Fault.TheVariants as fault
use Rattle.rdm_frame.specs.Faults.{IsFault, request_heard, reply_heard}
use Rattle.rdm_responder.specs.History as history
use Rattle.rdm_responder.specs.History.{History, then_event}
use Rattle.rdm_responder.specs.Rules.{reply_of, job_of}
use Rattle.rdm_responder.specs.Runs.{IsArrival, IsChange}
use Rattle.rdm_bus.specs.declared.event.Event.{Event}
use Rattle.rdm_bus.specs.declared.event.Event.TheVariants.{Bus, Arrived, Changed}
use Rattle.rdm_bus.specs.declared.event.Step.{Step}
use Rattle.rdm_bus.specs.declared.event.Step.TheVariants.{Ask, Collect, Arrive, Change}
use Rattle.rdm_collector.specs.declared.transaction.Heard.{Heard}
use Rattle.rdm_collector.specs.declared.transaction.Heard.TheVariants as heard
use Rattle.rdm_collector.specs.declared.want.Want.{Want}
use Rattle.rdm_collector.specs.Collecting.{State, refusal_of, command_request, after_ask, poll_request, after_poll, heard_in, after_hearing, without_transaction}

-- Where a bus stands between two transactions: what has happened to the device; the UIDs of the controller and of the
-- device that it polls, and what it wants; the number of the next transaction; and whether the last poll has no answer.
pub record Start : Type 0 where
  pub history : History
  pub uid : Uid
  pub target : Uid
  pub want : Want
  pub tn : ℕ
  pub unanswered : Bool

-- the controller there: no transaction is open, and nothing was recorded yet
abbrev pub controller_at : Start → State
controller_at s =
    record { uid = s.uid; target = s.target; want = s.want; tn = s.tn; transaction = None; unanswered = s.unanswered; recorded = [] }

-- ---- a transaction

-- What the device replies to what it hears of a request, and the job that this starts.
abbrev pub replied : History → Fault → List ℕ → Option (List ℕ)
replied h fault sent = option_and_then (reply_of h) (request_heard fault sent)

-- What the controller hears of the reply.
abbrev pub came : Fault → Option (List ℕ) → Option (List ℕ)
came fault reply = option_and_then (reply_heard fault) reply

-- Bytes are sent as a poll or as a command, and the controller waits for the answer. This is the event.
abbrev pub transaction : History → State → Bool → Fault → List ℕ → Event
transaction h waiting poll fault sent =
    Bus sent poll fault (replied h fault sent) (option_and_then (job_of h) (request_heard fault sent))
    (option_map (heard_in waiting) (came fault (replied h fault sent)))

-- This frame is sent, and this is what comes of it.
pub record IsTransaction (h : History) (waiting : State) (poll : Bool) (request : Frame) (fault : Fault) (event : Event) : Type 0 where
  pub is_frame : IsFrame request
  pub is_fault : IsFault fault
  pub event_is : event ≡ transaction h waiting poll fault (frame_text request)

-- the bytes of the reply
abbrev pub reply_in : Event → Option (List ℕ)
reply_in (Bus sent poll fault reply job heard) = reply
reply_in (Arrived report message kept) = None
reply_in (Changed change message) = None

-- The controller after the transaction, in which it waited for the answer.
abbrev pub after_reply : State → Fault → Option (List ℕ) → State
after_reply waiting fault reply = without_transaction (option_map_or (after_hearing waiting) (came fault reply) waiting)

-- ---- a run

-- What happens at a step. A command is sent that isn't refused; a poll is sent; a report arrives that may; or a value is
-- changed, if there is room for the message that tells of it.
abbrev pub IsPlayed : Start → Step → Event → Type 0
IsPlayed s (Ask c fault) event =
    (refusal_of (controller_at s) c ≡ None)
    × IsTransaction s.history (after_ask (controller_at s) c) false (command_request (controller_at s) c) fault event
IsPlayed s (Collect fault) event =
    IsTransaction s.history (after_poll (controller_at s)) true (poll_request (controller_at s)) fault event
IsPlayed s (Arrive report) (Arrived reported message kept) =
    (reported ≡ report) × IsArrival s.history report (record { message = message; kept = kept })
IsPlayed s (Change change) (Changed changed message) = (changed ≡ change) × IsChange s.history change message
IsPlayed s (Arrive report) _ = ⊥
IsPlayed s (Change change) _ = ⊥

-- what the device has heard, what has arrived, and what was changed
abbrev pub history_after : History → Event → History
history_after h (Bus sent poll fault reply job heard) =
    option_map_or (λ bytes. then_event h (history.Heard bytes)) (request_heard fault sent) h
history_after h (Arrived report message kept) = then_event h (history.Arrived report)
history_after h (Changed change message) = then_event h (history.Changed change)

-- the transaction numbers count up modulo 256
abbrev pub tn_after : ℕ → Event → ℕ
tn_after tn (Bus sent poll fault reply job heard) = (tn + 1) % 256
tn_after tn (Arrived report message kept) = tn
tn_after tn (Changed change message) = tn

-- a poll is answered if the controller hears a message
abbrev pub is_message_heard : Option Heard → Bool
is_message_heard None = false
is_message_heard (Some heard.Message) = true
is_message_heard (Some heard.Reply) = false
is_message_heard (Some heard.Ignored) = false

abbrev pub unanswered_after : Bool → Event → Bool
unanswered_after unanswered (Bus sent true fault reply job heard) = not (is_message_heard heard)
unanswered_after unanswered (Bus sent false fault reply job heard) = unanswered
unanswered_after unanswered (Arrived report message kept) = unanswered
unanswered_after unanswered (Changed change message) = unanswered

-- where the bus stands after an event, and after events
abbrev pub after : Start → Event → Start
after s event =
    record s { history = history_after s.history event; tn = tn_after s.tn event; unanswered = unanswered_after s.unanswered event }

abbrev pub after_all : Start → List Event → Start
after_all s events = fold after s events

-- A run of the bus: each step has its event.
abbrev pub IsBusRun : Start → List Step → List Event → Type 0
IsBusRun s [] [] = Unit {0}
IsBusRun s (step ∷ steps) (event ∷ events) = IsPlayed s step event × IsBusRun (after s event) steps events
IsBusRun s [] (event ∷ events) = ⊥
IsBusRun s (step ∷ steps) [] = ⊥

-- what goes wrong at a step
abbrev pub fault_of : Step → Fault
fault_of (Ask c fault) = fault
fault_of (Collect fault) = fault
fault_of (Arrive report) = fault.None
fault_of (Change change) = fault.None

-- ---- what is altered

-- An altered request has no reply and starts no job, and an altered reply is ignored.
abbrev pub IsAlteredInVain : Event → Type 0
IsAlteredInVain (Bus sent poll (fault.BadRequest k x) reply job taken_for) = (reply ≡ None) × (job ≡ None)
IsAlteredInVain (Bus sent poll (fault.BadReply k x) reply job taken_for) = IfSome taken_for (λ h. h ≡ heard.Ignored)
IsAlteredInVain _ = Unit {0}
