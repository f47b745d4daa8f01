-- A run of a line that has a collector for each of its devices: one transaction after another, each of one collector, heard by
-- all devices that its request addresses, with what goes wrong on the way; and between them the reports of the devices' jobs
-- arrive, and people change values at the devices' own menus. E1.20 sections 6.2 (transactions), 7.5 (collisions) and 10.3.1
-- (polls).
use Rattle.std.specs.Prelude.{◌≡◌, ◌≢◌, ℕ, suc, ◌==◌, Bool, true, false, List, [], ◌∷◌, map, All, AllPairs, Option, Some, None, if◌then◌else◌}
use Rattle.std.specs.List.{slice_get}
use Rattle.std.specs.Option.{option_map, option_map_or, option_and_then}
use Rattle.rdm_frame.specs.declared.frame.Frame.{Frame}
use Rattle.rdm_frame.specs.Addressing.{is_broadcast}
use Rattle.rdm_frame.specs.FrameText.{frame_text, IsFrame}
use Rattle.rdm_frame.specs.declared.fault.Fault.{Fault}
use Rattle.rdm_frame.specs.Faults.{request_heard, IsFault}
use Rattle.rdm_responder.specs.History.{History}
use Rattle.rdm_responder.specs.Rules.{job_of}
use Rattle.rdm_collector.specs.Collecting.{State, refusal_of, command_request, after_ask, poll_request, after_poll, heard_in}
use Rattle.rdm_bus.specs.declared.event.Event.{Event}
use Rattle.rdm_bus.specs.declared.event.Event.TheVariants.{Bus, Arrived, Changed}
use Rattle.rdm_bus.specs.declared.event.Step.{Step}
use Rattle.rdm_bus.specs.declared.event.Step.TheVariants.{Ask, Collect, Arrive, Change}
use Rattle.rdm_bus.specs.BusRun.{Start, controller_at, came, IsPlayed, history_after, tn_after, unanswered_after}
use Rattle.rdm_line.specs.declared.on_wire.OnWire.{OnWire}
use Rattle.rdm_line.specs.declared.on_wire.OnWire.TheVariants.{Nothing, Reply, Collision as Collided}
use Rattle.rdm_line.specs.declared.collision.Collision.{Collision}
use Rattle.rdm_line.specs.Collisions.{on_wire}
use Rattle.rdm_line.specs.Hearing.{answers, heard_by}
use Rattle.rdm_line.specs.Line.{uids_of}

-- The collector polls its device, and the UID of the device is no broadcast. Section 6.2.4.
abbrev pub IsPaired : Start → Type 0
IsPaired s = (s.target ≡ s.history.setup.uid) × (is_broadcast s.history.setup.uid ≡ false)

-- the histories of a line's devices
abbrev pub histories : List Start → List History
histories line = map (λ s. s.history) line

-- Where a line stands between two transactions is a list: for each place of the line its device's history and its collector's
-- state, as where a bus stands. Each collector polls its own device, and no two devices have one UID.
pub record IsLine (line : List Start) : Type 0 where
  pub paired : All (λ s. IsPaired s) line
  pub differ : AllPairs (λ u v. u ≢ v) (uids_of (histories line))

-- ---- a transaction

-- the bytes on the wire, if there are any: a collector can't see whether they are one reply or a collision
abbrev pub bytes_on : OnWire × List ℕ → Option (List ℕ)
bytes_on (Nothing, bytes) = None
bytes_on (Reply, bytes) = Some bytes
bytes_on (Collided, bytes) = Some bytes

-- What the line answers to what reaches it of a request: the answers of all its devices, made one by a rule of collisions.
-- Section 7.5.
abbrev pub line_replied : Collision → List History → Fault → List ℕ → Option (List ℕ)
line_replied rule hs fault sent = option_and_then (λ bytes. bytes_on (on_wire rule [] (answers bytes hs))) (request_heard fault sent)

-- A collector sends bytes on a line of these histories, to whichever devices they address, and waits for the answer. This is
-- the event at its place, with the job that starts at the device of that place, of history H, if one does.
abbrev pub line_transaction : Collision → List History → History → State → Bool → Fault → List ℕ → Event
line_transaction rule hs h waiting poll fault sent =
    Bus sent poll fault (line_replied rule hs fault sent) (option_and_then (job_of h) (request_heard fault sent))
    (option_map (heard_in waiting) (came fault (line_replied rule hs fault sent)))

-- This frame is sent on a line, and this is what comes of it. Section 6.2.
pub record IsLineTransaction (rule : Collision) (hs : List History) (h : History) (waiting : State) (poll : Bool) (request : Frame) (fault : Fault) (event : Event) : Type 0 where
  pub is_frame : IsFrame request
  pub is_fault : IsFault fault
  pub event_is : event ≡ line_transaction rule hs h waiting poll fault (frame_text request)

-- ---- a run

-- What happens at a step of a device and its collector, on a line of these histories. The collector sends a command, to any
-- device or by broadcast, unless it refuses it, as it does QUEUED_MESSAGE and STATUS_MESSAGES; or it polls its device. Reports
-- and changes are as on a bus: they concern no other device.
abbrev pub IsLinePlayed : Collision → List History → Start → Step → Event → Type 0
IsLinePlayed rule hs s (Ask c fault) event =
    (refusal_of (controller_at s) c ≡ None)
    × IsLineTransaction rule hs s.history (after_ask (controller_at s) c) false (command_request (controller_at s) c) fault event
IsLinePlayed rule hs s (Collect fault) event =
    IsLineTransaction rule hs s.history (after_poll (controller_at s)) true (poll_request (controller_at s)) fault event
IsLinePlayed rule hs s (Arrive report) event = IsPlayed s (Arrive report) event
IsLinePlayed rule hs s (Change change) event = IsPlayed s (Change change) event

-- the history of any device of the line after an event at any place: it has heard what reached the line and addresses it
abbrev pub overheard : Event → History → History
overheard (Bus sent poll fault reply job heard) h = option_map_or (λ bytes. heard_by bytes h) (request_heard fault sent) h
overheard (Arrived report message kept) h = h
overheard (Changed change message) h = h

-- the history of the device at the place of the event
abbrev pub own_history : Event → History → History
own_history (Bus sent poll fault reply job heard) h = overheard (Bus sent poll fault reply job heard) h
own_history (Arrived report message kept) h = history_after h (Arrived report message kept)
own_history (Changed change message) h = history_after h (Changed change message)

-- where the two of that place stand after it, and where those of any other place do
abbrev pub after_own : Start → Event → Start
after_own s event =
    record s { history = own_history event s.history; tn = tn_after s.tn event; unanswered = unanswered_after s.unanswered event }

abbrev pub after_other : Start → Event → Start
after_other s event = record s { history = overheard event s.history }

-- the line from place N on, after an event at place K
abbrev pub line_after_from : ℕ → ℕ → Event → List Start → List Start
line_after_from n k event [] = []
line_after_from n k event (s ∷ line) =
    (if n == k then after_own s event else after_other s event) ∷ line_after_from (suc n) k event line

-- the line after an event at place K
abbrev pub line_after : ℕ → Event → List Start → List Start
line_after k event line = line_after_from 0 k event line

-- A step of the device and the collector of a place.
pub record LineStep : Type 0 where
  pub place : ℕ
  pub step : Step

-- A run of a line: each step is at a place that there is, and has its event.
abbrev pub IsLineRun : Collision → List Start → List LineStep → List Event → Type 0
IsLineRun rule line [] [] = Unit {0}
IsLineRun rule line (at ∷ steps) (event ∷ events) =
    ((s : Start) × (slice_get line at.place ≡ Some s) × IsLinePlayed rule (histories line) s at.step event)
    × IsLineRun rule (line_after at.place event line) steps events
IsLineRun rule line [] (event ∷ events) = ⊥
IsLineRun rule line (at ∷ steps) [] = ⊥

-- where the line stands after events
abbrev pub line_after_all : List LineStep → List Event → List Start → List Start
line_after_all [] events line = line
line_after_all (at ∷ steps) [] line = line
line_after_all (at ∷ steps) (event ∷ events) line = line_after_all steps events (line_after at.place event line)

-- the events of a run at the device of a place
abbrev pub events_at : ℕ → List LineStep → List Event → List Event
events_at i [] events = []
events_at i (at ∷ steps) [] = []
events_at i (at ∷ steps) (event ∷ events) = if i == at.place then event ∷ events_at i steps events else events_at i steps events
