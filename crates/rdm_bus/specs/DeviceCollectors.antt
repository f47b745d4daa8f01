-- A collector for any device in the place of a bus's controller: what it sends at each step, and what it records of the device.
-- E1.20 sections 6.2 and 10.3.1.
use Rattle.std.specs.Prelude.{◌≡◌, ℕ, ◌<◌, Bool, false, List, [], ◌∷◌, ◌++◌, map, All, Option, Some, None, IfSome, slice_index}
use Rattle.std.specs.Option.{option_map_or}
use Rattle.rdm_frame.specs.FrameText.{frame_text}
use Rattle.rdm_frame.specs.declared.message.Message.{Message}
use Rattle.rdm_collector.specs.Collecting as collecting
use Rattle.rdm_collector.specs.Sending.{command_request, poll_request}
use Rattle.rdm_collector.specs.declared.any_device.collected.Collected.{Collected}
use Rattle.rdm_collector.specs.AnyDevice.Collecting.{DeviceState, collector_with, sender, after_ask, after_poll, after_over, after_hearing}
use Rattle.rdm_collector.specs.Polling.{given_between}
use Rattle.rdm_collector.specs.Recording.{PrefixLaw, NoLossLaw, same_message}
use Rattle.rdm_bus.specs.declared.event.Event.{Event}
use Rattle.rdm_bus.specs.declared.event.Event.TheVariants.{Bus, Arrived, Changed}
use Rattle.rdm_bus.specs.declared.event.Step.{Step}
use Rattle.rdm_bus.specs.declared.event.Step.TheVariants.{Ask, Collect, Arrive, Change}
use Rattle.rdm_bus.specs.BusRun.{Start, controller_at, came, reply_in, after_all, IsBusRun}
use Rattle.rdm_bus.specs.BusLaws.{dispensed, recorded, queue_of}

-- A collector for any device that stands where the controller does, whatever it recorded, and whatever it lost, before.
abbrev pub collector_at : Start → (again lost : Bool) → List Collected → DeviceState
collector_at s again lost before = collector_with (collecting.sender (controller_at s)) again lost before

-- ---- a step

-- what it sends, if it sends something, and what was sent on the bus
abbrev pub sent_at : DeviceState → Step → Option (List ℕ)
sent_at d (Ask c fault) = Some (frame_text (command_request (sender d) c))
sent_at d (Collect fault) = Some (frame_text (poll_request (sender d)))
sent_at d (Arrive report) = None
sent_at d (Change change) = None

abbrev pub sent_in : Event → Option (List ℕ)
sent_in (Bus sent poll fault reply job heard) = Some sent
sent_in (Arrived report message kept) = None
sent_in (Changed change message) = None

-- the collector after it heard what came, if anything did, and its transaction is over
abbrev pub over_with : DeviceState → Option (List ℕ) → DeviceState
over_with d heard = after_over (option_map_or (after_hearing d) heard d)

-- the collector after a step, of which this came
abbrev pub after_step : DeviceState → Step → Event → DeviceState
after_step d (Ask c fault) event = over_with (after_ask d c) (came fault (reply_in event))
after_step d (Collect fault) event = over_with (after_poll d) (came fault (reply_in event))
after_step d (Arrive report) event = d
after_step d (Change change) event = d

-- ---- a run

abbrev pub after_steps : DeviceState → List Step → List Event → DeviceState
after_steps d [] events = d
after_steps d (step ∷ steps) [] = d
after_steps d (step ∷ steps) (event ∷ events) = after_steps (after_step d step event) steps events

-- At each step it sends what was sent on the bus.
abbrev pub SendsTheSame : DeviceState → List Step → List Event → Type 0
SendsTheSame d [] events = Unit {0}
SendsTheSame d (step ∷ steps) [] = Unit {0}
SendsTheSame d (step ∷ steps) (event ∷ events) = (sent_at d step ≡ sent_in event) × SendsTheSame (after_step d step event) steps events

-- the reply, if there is one, is made of bytes
abbrev pub IsOfBytes : Event → Type 0
IsOfBytes event = IfSome (reply_in event) (λ slots. (i : ℕ) → slice_index slots i < 256)

-- ---- the laws

abbrev pub messages_of : List Collected → List Message
messages_of collected = map (λ (c : Collected). c.message) collected

-- What the collector recorded in a run: exactly the messages that the controller recorded of it, each as often; and both recording laws
-- hold of them and of what the device dispensed and gave.
pub record DeviceCollectorLaws (start : Start) (before : List Collected) (after : DeviceState) (events : List Event) : Type 0 where
  pub collected : List Collected
  pub is_recorded : after.recorded ≡ before ++ collected
  pub what_was_heard : messages_of collected ≡ recorded events
  pub prefix : PrefixLaw after.unanswered (dispensed events) (messages_of collected)
  pub no_loss : NoLossLaw after.unanswered
      (given_between (queue_of start.history) (queue_of (after_all start events).history)) (messages_of collected)

-- In every run of the bus a collector for any device that stands where the controller does sends what the controller sends, and both
-- laws hold of what it records: after whatever has happened to the device, whichever commands, polls, arrivals and changes there are,
-- whichever requests and replies are lost or altered, and however many in a row.
abbrev pub DeviceCollectorLawsHold : Type 0
DeviceCollectorLawsHold =
    (s : Start) (again lost : Bool) (before : List Collected) (steps : List Step) (events : List Event)
    → IsBusRun s steps events → All (λ e. IsOfBytes e) events
    → SendsTheSame (collector_at s again lost before) steps events
    × DeviceCollectorLaws s before (after_steps (collector_at s again lost before) steps events) events

-- ---- what they rule out

-- A collector that records a repeat twice: of what the controller recorded once, it records two.
abbrev pub RecordingARepeatTwiceIsRuledOut : Type 0
RecordingARepeatTwiceIsRuledOut =
    (start : Start) (before : List Collected) (after : DeviceState) (events : List Event) (c : Collected)
    → recorded events ≡ c.message ∷ [] → after.recorded ≡ before ++ c ∷ c ∷ [] → ¬ DeviceCollectorLaws start before after events

-- A collector that skips a message, as it does when it asks for the next one after a loss.
abbrev pub SkippingALostOneIsRuledOut : Type 0
SkippingALostOneIsRuledOut =
    (start : Start) (before : List Collected) (after : DeviceState) (events : List Event) (lost : Message) (next : Collected)
    → dispensed events ≡ lost ∷ next.message ∷ [] → same_message lost next.message ≡ false
    → after.recorded ≡ before ++ next ∷ [] → ¬ DeviceCollectorLaws start before after events
