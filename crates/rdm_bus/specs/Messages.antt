-- The messages of a device in a run of the bus: what waits is what arrived without what was given, and each message is given
-- once, in order of arrival. Where the profile asks for the newest only, a message that waits may be replaced by that of a
-- later change. E1.20 section 10.3.1.
use Rattle.std.specs.Prelude.{◌≡◌, Bool, false, if◌then◌else◌, List, [], ◌∷◌, ◌++◌, map, nat_lt, Some, None}
use Rattle.std.specs.List.{flat_map}
use Rattle.rdm_frame.specs.declared.message.Message.{Message}
use Rattle.rdm_outbox.specs.Jobs.{waiting_of}
use Rattle.rdm_outbox.specs.Messages.{in_place_of_same}
use Rattle.rdm_responder.specs.Rules.{account_of, newest_only}
use Rattle.rdm_responder.specs.Runs.{outbox_of}
use Rattle.rdm_bus.specs.declared.event.Event.{Event}
use Rattle.rdm_bus.specs.declared.event.Event.TheVariants.{Bus, Arrived, Changed}
use Rattle.rdm_bus.specs.declared.event.Step.{Step}
use Rattle.rdm_bus.specs.BusRun.{Start, after, after_all, IsBusRun}
use Rattle.rdm_bus.specs.BusLaws.{carried, dispensed_by}

-- the message that enters the queue in an event, as a frame carries it: that of a job's result, or of a change
abbrev pub enters_by : Event → List Message
enters_by (Bus sent poll fault reply job heard) = []
enters_by (Arrived report message kept) = carried message ∷ []
enters_by (Changed change None) = []
enters_by (Changed change (Some message)) = carried message ∷ []

-- the messages that wait in the device, as frames carry them
abbrev pub waiting_at : Start → List Message
waiting_at s = map carried (waiting_of (outbox_of s.history))

-- whether the profile of the device asks for the newest message of a change only
abbrev pub keeps_newest : Start → Bool
keeps_newest s = newest_only (account_of s.history).parameters

-- The messages that wait once the message of an event has entered the queue: it stands behind those that waited, or, at a
-- change of a device that keeps the newest only, in the place of the first that tells of the same.
abbrev pub waiting_with : Start → Event → List Message
waiting_with s (Bus sent poll fault reply job heard) = waiting_at s ++ []
waiting_with s (Arrived report message kept) = waiting_at s ++ carried message ∷ []
waiting_with s (Changed change None) = waiting_at s ++ []
waiting_with s (Changed change (Some message)) =
    if keeps_newest s then map carried (in_place_of_same message (waiting_of (outbox_of s.history)))
    else waiting_at s ++ carried message ∷ []

-- whether the device gives a message from its queue in an event: one more has left the queue afterwards, and on the bus nobody drops any
abbrev pub gives : Start → Event → Bool
gives s event = nat_lt (outbox_of s.history).gone (outbox_of (after s event).history).gone

-- the message that is given then, as the reply carries it
abbrev pub given_by : Start → Event → List Message
given_by s event = if gives s event then dispensed_by event else []

-- the messages that are given in all of them, in order
abbrev pub given_in : Start → List Event → List Message
given_in s [] = []
given_in s (event ∷ events) = given_by s event ++ given_in (after s event) events

-- At each event what is given, followed by what waits afterwards, is what waited, with the message that entered.
abbrev pub KeepsAtEach : Start → List Event → Type 0
KeepsAtEach start [] = Unit {0}
KeepsAtEach start (event ∷ events) =
    (given_by start event ++ waiting_at (after start event) ≡ waiting_with start event)
    × KeepsAtEach (after start event) events

-- What was given, followed by what waits, is what waited at the start, followed by what has entered since. That is so if the
-- device keeps each message. At each event it is so whatever the profile asks for, but that the message of a change may stand
-- in the place of another: of one that waits, was given to nobody, and tells of the same.
pub record KeepsMessages (start : Start) (events : List Event) : Type 0 where
  pub at_each : KeepsAtEach start events
  pub in_all : keeps_newest start ≡ false
      → given_in start events ++ waiting_at (after_all start events) ≡ waiting_at start ++ flat_map enters_by events

-- It holds of every run, after whatever has happened to the device.
abbrev pub KeepingHolds : Type 0
KeepingHolds = (start : Start) (steps : List Step) (events : List Event) → IsBusRun start steps events → KeepsMessages start events
