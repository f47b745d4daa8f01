-- The recording laws, of a run of a line. E1.20 section 10.3.1.
use Rattle.std.specs.Prelude.{◌≡◌, ℕ, true, false, List, [], ◌++◌, ◌∷◌, Some}
use Rattle.std.specs.List.{slice_get}
use Rattle.std.specs.Option.{option_map_or, option_and_then, option_to_list}
use Rattle.rdm_frame.specs.declared.message.Message.{Message}
use Rattle.rdm_responder.specs.History.{History}
use Rattle.rdm_collector.specs.Polling.{given_between}
use Rattle.rdm_collector.specs.Recording.{PrefixLaw, NoLossLaw}
use Rattle.rdm_bus.specs.declared.event.Event.{Event}
use Rattle.rdm_bus.specs.declared.event.Event.TheVariants.{Bus, Arrived, Changed}
use Rattle.rdm_bus.specs.BusRun.{Start, replied}
use Rattle.rdm_bus.specs.BusLaws.{message_in, recorded, queue_of}
use Rattle.rdm_line.specs.declared.collision.Collision.{Collision}
use Rattle.rdm_line_ends.specs.LineRun.{IsLine, IsLineRun, LineStep, events_at, line_after, line_after_all}

-- What a device of this history itself says to a poll, its own or another's: the message of its reply, whatever else is on the
-- line.
abbrev pub dispensed_to : History → Event → List Message
dispensed_to h (Bus sent true fault reply job heard) = option_to_list (option_and_then message_in (replied h fault sent))
dispensed_to h (Bus sent false fault reply job heard) = []
dispensed_to h (Arrived report message kept) = []
dispensed_to h (Changed change message) = []

-- D: the messages of all replies of the device of a place to polls, those included that repeat a message or were lost.
abbrev pub dispensed_at : ℕ → List Start → List LineStep → List Event → List Message
dispensed_at i line [] events = []
dispensed_at i line (at ∷ steps) [] = []
dispensed_at i line (at ∷ steps) (event ∷ events) =
    option_map_or (λ s. dispensed_to s.history event) (slice_get line i) []
    ++ dispensed_at i (line_after at.place event line) steps events

-- R: the messages that the collector of a place heard from the line, as answers to its polls.
abbrev pub recorded_at : ℕ → List LineStep → List Event → List Message
recorded_at i steps events = recorded (events_at i steps events)

-- Both laws, of a device that dispensed these messages and its collector that recorded those, where the two stood before and after.
pub record PairLaws (before after : Start) (dispensed recorded : List Message) : Type 0 where
  pub prefix : PrefixLaw after.unanswered dispensed recorded
  pub no_loss : NoLossLaw after.unanswered (given_between (queue_of before.history) (queue_of after.history)) recorded

-- Each place of a line is still there after a run, and the laws hold of its device and its collector, whatever the others do:
-- whichever commands, polls, arrivals and changes there are at any of them, whatever a collision sounds like, whichever requests
-- and replies are lost or altered, and however many in a row.
abbrev pub LineLawsHold : Type 0
LineLawsHold =
    (rule : Collision) (line : List Start) (steps : List LineStep) (events : List Event) → IsLine line
    → IsLineRun rule line steps events → (i : ℕ) (before : Start) → slice_get line i ≡ Some before
    → (after : Start) × (slice_get (line_after_all steps events line) i ≡ Some after)
    × PairLaws before after (dispensed_at i line steps events) (recorded_at i steps events)
