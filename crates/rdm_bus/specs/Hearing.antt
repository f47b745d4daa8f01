-- What a controller sends for a command, and what it takes an answer for, said of what is on the bus and of nothing that it
-- keeps. E1.20 sections 6.2 and 6.3.1.
use Rattle.std.specs.Prelude.{◌≡◌, ◌↔◌, ℕ, ◌+◌, ◌%◌, Bool, false, List, ◌∷◌, ◌++◌, length, take, slice_get, Option, Some}
use Rattle.rdm_frame.specs.FrameText.{frame_text}
use Rattle.rdm_frame.specs.declared.fault.Fault.{Fault}
use Rattle.rdm_outbox.specs.declared.job.Job.{Job}
use Rattle.rdm_collector.specs.declared.command.Command.{Command}
use Rattle.rdm_bus.specs.declared.event.Event.{Event}
use Rattle.rdm_bus.specs.declared.event.Event.TheVariants.{Bus}
use Rattle.rdm_bus.specs.declared.event.Step.{Step}
use Rattle.rdm_bus.specs.declared.event.Step.TheVariants.{Ask}
use Rattle.rdm_collector.specs.declared.transaction.Heard.{Heard}
use Rattle.rdm_collector.specs.Hearing.{IsHeardAs}
use Rattle.rdm_bus.specs.BusRun.{Start, came, IsBusRun}
use Rattle.rdm_bus.specs.Numbering.{requests_in}
use Rattle.rdm_collector.specs.Requests.{request_of}

-- The number of the transaction that follows these events: the first number and the requests since, modulo 256. Section 6.2.6.
abbrev pub number_after : Start → List Event → ℕ
number_after start before = (start.tn + length (requests_in before)) % 256

-- ---- what is sent for a command

-- The k-th step is a command: its request is the text of the command's frame with the number that is next then. It isn't a poll.
abbrev pub CommandsAreSent : Start → List Step → List Event → Type 0
CommandsAreSent start steps events =
    (k : ℕ) (c : Command) (fault : Fault) → slice_get steps k ≡ Some (Ask c fault)
    → (reply : Option (List ℕ)) × (job : Option Job) × (heard : Option Heard)
    × (slice_get events k ≡ Some (Bus (frame_text (request_of start.uid (number_after start (take k events)) c)) false fault reply job heard))

-- ---- what an answer is taken for

-- Each transaction is heard as something exactly when it must be.
abbrev pub AnswersAreHeard : Start → List Event → Type 0
AnswersAreHeard start events =
    (before after : List Event) (sent : List ℕ) (poll : Bool) (fault : Fault) (reply : Option (List ℕ)) (job : Option Job) (heard : Option Heard)
    → events ≡ before ++ Bus sent poll fault reply job heard ∷ after
    → (h : Option Heard) → (heard ≡ h) ↔ IsHeardAs start.target start.uid (number_after start before) sent poll (came fault reply) h

-- Both hold of every run.
abbrev pub CommandSendingHolds : Type 0
CommandSendingHolds = (start : Start) (steps : List Step) (events : List Event) → IsBusRun start steps events → CommandsAreSent start steps events

abbrev pub HearingHolds : Type 0
HearingHolds = (start : Start) (steps : List Step) (events : List Event) → IsBusRun start steps events → AnswersAreHeard start events
