-- The recording laws, of a run of the bus. E1.20 section 10.3.1.
use Rattle.std.specs.Prelude.{ℕ, ◌%◌, Bool, true, false, List, [], map, Option}
use Rattle.std.specs.Option.{option_map, option_and_then, option_to_list}
use Rattle.std.specs.List.{flat_map}
use Rattle.rdm_frame.specs.Reading.{frame_in}
use Rattle.rdm_frame.specs.declared.message.Message.{Message}
use Rattle.rdm_outbox.specs.Messages.{last_of}
use Rattle.rdm_responder.specs.History.{History}
use Rattle.rdm_responder.specs.Runs.{outbox_of}
use Rattle.rdm_bus.specs.declared.event.Event.{Event}
use Rattle.rdm_bus.specs.declared.event.Event.TheVariants.{Bus, Arrived, Changed}
use Rattle.rdm_bus.specs.declared.event.Step.{Step}
use Rattle.rdm_collector.specs.Answers.{message_of}
use Rattle.rdm_bus.specs.BusRun.{Start, is_message_heard, after_all, IsBusRun}
use Rattle.rdm_collector.specs.Polling.{Queue, given_between}
use Rattle.rdm_collector.specs.Recording.{PrefixLaw, NoLossLaw}

-- the message that the bytes of a reply carry
abbrev pub message_in : List ℕ → Option Message
message_in bytes = option_map message_of (frame_in bytes)

-- D: the messages of all replies to polls, those included that repeat a message or were lost
abbrev pub dispensed_by : Event → List Message
dispensed_by (Bus sent true fault reply job heard) = option_to_list (option_and_then message_in reply)
dispensed_by (Bus sent false fault reply job heard) = []
dispensed_by (Arrived report message kept) = []
dispensed_by (Changed change message) = []

abbrev pub dispensed : List Event → List Message
dispensed events = flat_map dispensed_by events

-- R: those of the replies that the controller heard
abbrev pub recorded_if : Bool → Event → List Message
recorded_if true event = dispensed_by event
recorded_if false event = []

abbrev pub recorded_by : Event → List Message
recorded_by (Bus sent poll fault reply job heard) =
    recorded_if (is_message_heard heard) (Bus sent poll fault reply job heard)
recorded_by (Arrived report message kept) = []
recorded_by (Changed change message) = []

abbrev pub recorded : List Event → List Message
recorded events = flat_map recorded_by events

-- A message as a frame carries it: its parameter ID and its sub-device have 16 bits, as those of every device have.
-- Sections 6.2.9 and 6.2.10.
abbrev pub carried : Message → Message
carried m = record m { pid = m.pid % 65536; sub = m.sub % 65536 }

-- The device's queue: the messages that arrived in it, without those that a newer one replaced while they waited, how many
-- of them were given, and its last answer.
abbrev pub queue_of : History → Queue
queue_of h =
    record { arrived = map carried (outbox_of h).arrived; given = (outbox_of h).gone; last = carried (last_of (outbox_of h)) }

-- Both laws, of these events after this start. G is what left the queue between the two.
pub record BusLaws (start : Start) (events : List Event) : Type 0 where
  pub prefix : PrefixLaw (after_all start events).unanswered (dispensed events) (recorded events)
  pub no_loss : NoLossLaw (after_all start events).unanswered
      (given_between (queue_of start.history) (queue_of (after_all start events).history)) (recorded events)

-- The laws hold of every run of the bus, after whatever has happened to the device: whichever commands, polls, arrivals and
-- changes at its menu, whichever requests and replies are lost or altered, and however many in a row.
abbrev pub BusLawsHold : Type 0
BusLawsHold = (start : Start) (steps : List Step) (events : List Event) → IsBusRun start steps events → BusLaws start events
