-- What a collector takes bytes for, said of the bytes and of what was sent, and of nothing that it keeps. E1.20 sections 6.2
-- and 6.3.1.
use Rattle.std.specs.Prelude.{◌≡◌, ◌↔◌, ◌⊎◌, ℕ, ◌+◌, Bool, true, false, List, Option, Some, None}
use Rattle.rdm_frame.specs.declared.uid.Uid.{Uid}
use Rattle.rdm_frame.specs.declared.frame.Frame.{Frame}
use Rattle.rdm_frame.specs.FrameText.{frame_text, IsFrame}
use Rattle.rdm_frame.specs.Reading.{frame_in}
use Rattle.rdm_collector.specs.declared.command.Command.{Command}
use Rattle.rdm_collector.specs.declared.transaction.Heard.{Heard}
use Rattle.rdm_collector.specs.declared.transaction.Heard.TheVariants.{Message, Reply, Ignored}
use Rattle.rdm_collector.specs.Collecting.{State, poll_request, after_poll, command_request, after_ask, heard_in}

-- The bytes are the text of this frame, from this device to this controller, with this transaction's number.
pub record IsAnswer (device controller : Uid) (number : ℕ) (bytes : List ℕ) (f : Frame) : Type 0 where
  pub text : frame_in bytes ≡ Some f
  pub source : f.src ≡ device
  pub destination : f.dst ≡ controller
  pub number_is : f.tn ≡ number

-- It acknowledges a GET or a SET: its class is 21 or 31, and its response type ACK. Section 6.3.1.
abbrev pub IsAcknowledgement : Frame → Type 0
IsAcknowledgement f = ((f.class ≡ 0x21) ⊎ (f.class ≡ 0x31)) × (f.port ≡ 0)

-- It is a response to this request: it has the class plus 1, and the same sub-device and parameter. Section 6.2.10.
abbrev pub IsResponseTo : Frame → Frame → Type 0
IsResponseTo request f = (f.class ≡ request.class + 1) × (f.sub ≡ request.sub) × (f.pid ≡ request.pid)

-- The bytes are a message, as a poll is answered by. Section 10.3.1.
abbrev pub IsMessage : Uid → Uid → ℕ → List ℕ → Type 0
IsMessage device controller number bytes = (f : Frame) × IsAnswer device controller number bytes f × IsAcknowledgement f

-- The bytes are a reply to the request that was sent.
abbrev pub IsReplyTo : Uid → Uid → ℕ → List ℕ → List ℕ → Type 0
IsReplyTo device controller number sent bytes =
    (request : Frame) × (frame_in sent ≡ Some request) × ((f : Frame) × IsAnswer device controller number bytes f × IsResponseTo request f)

-- As what the answer to a transaction is heard: as nothing if nothing came; as a message if the transaction is a poll and
-- a message came; as a reply if it is a command and a reply to it came; in every other case it is ignored.
abbrev pub IsHeardAs : Uid → Uid → ℕ → List ℕ → Bool → Option (List ℕ) → Option Heard → Type 0
IsHeardAs device controller number sent poll came None = came ≡ None
IsHeardAs device controller number sent poll came (Some Message) =
    (bytes : List ℕ) × (came ≡ Some bytes) × (poll ≡ true) × IsMessage device controller number bytes
IsHeardAs device controller number sent poll came (Some Reply) =
    (bytes : List ℕ) × (came ≡ Some bytes) × (poll ≡ false) × IsReplyTo device controller number sent bytes
IsHeardAs device controller number sent poll came (Some Ignored) =
    (bytes : List ℕ) × (came ≡ Some bytes)
    × (poll ≡ true → ¬ IsMessage device controller number bytes) × (poll ≡ false → ¬ IsReplyTo device controller number sent bytes)

-- After a poll bytes are taken for something exactly when they must be.
abbrev pub PollsAreAnswered : Type 0
PollsAreAnswered =
    (s : State) (bytes : List ℕ) (h : Heard)
    → (heard_in (after_poll s) bytes ≡ h) ↔ IsHeardAs s.target s.uid s.tn (frame_text (poll_request s)) true (Some bytes) (Some h)

-- And so they are after a command, whose request has numbers that fit a frame.
abbrev pub CommandsAreAnswered : Type 0
CommandsAreAnswered =
    (s : State) (c : Command) (bytes : List ℕ) (h : Heard) → IsFrame (command_request s c)
    → (heard_in (after_ask s c) bytes ≡ h) ↔ IsHeardAs s.target s.uid s.tn (frame_text (command_request s c)) false (Some bytes) (Some h)
