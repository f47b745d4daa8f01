-- Any device that keeps a queue and a last message, and what happens between it and its collector. E1.20 sections 6.2, 6.3 and
-- 10.3.1.
use Rattle.std.specs.Prelude.{◌≡◌, ◌⊎◌, ℕ, ◌==◌, Bool, true, false, List, [], ◌∷◌, ◌++◌, drop, fold, slice_index, Option, Some, None}
use Rattle.std.specs.List.{All, flat_map}
use Rattle.rdm_frame.specs.declared.frame.Frame.{Frame}
use Rattle.rdm_frame.specs.FrameText.{frame_text, IsFrame}
use Rattle.rdm_frame.specs.Reading.{frame_in}
use Rattle.rdm_collector.specs.declared.command.Command.{Command}
use Rattle.rdm_collector.specs.declared.reply.Response.{Response}
use Rattle.rdm_collector.specs.declared.any_device.heard.DeviceHeard.{DeviceHeard}
use Rattle.rdm_collector.specs.declared.any_device.heard.DeviceHeard.TheVariants.{Message, Part, NotYet}
use Rattle.rdm_collector.specs.Sending.{refusal_of, poll_request}
use Rattle.rdm_collector.specs.Replies.{response_in}
use Rattle.rdm_collector.specs.AnyDevice.Answers.{poll_heard}
use Rattle.rdm_collector.specs.AnyDevice.Collecting.{DeviceState, sender, after_ask, after_poll, after_over, after_hearing}
use Rattle.rdm_collector.specs.AnyDevice.Items.{Item, item_in}

-- The messages that wait in a device, the first first, and what it said last to a poll, if it has said something.
pub record Device : Type 0 where
  pub waiting : List Item
  pub last : Option Item

-- ---- what a device may say

-- What it does with a poll: it is silent, as when it doesn't hear it; or it gives a message, in a frame of this response type;
-- or it declines, since it rejects the poll or needs time.
pub data Reply : Type 0 where
  Silence : Reply
  Gives : Frame → Response → Reply
  Declines : Frame → Response → Reply

-- The request asks for the last message again: STATUS_GET_LAST_MESSAGE. Table A-4.
abbrev pub asks_again : Frame → Bool
asks_again request = slice_index request.body 0 == 0x01

-- The frame replies to the request: it has its number, and goes from its destination to its source, as the response to a GET or
-- a SET, of this response type. Sections 6.2 and 6.3.
pub record IsReplyTo (request f : Frame) (r : Response) : Type 0 where
  pub source : f.src ≡ request.dst
  pub destination : f.dst ≡ request.src
  pub number : f.tn ≡ request.tn
  pub class : (f.class ≡ 0x21) ⊎ (f.class ≡ 0x31)
  pub response : response_in f.port f.body ≡ Some r

-- it is heard as a message, whole or a part
abbrev pub is_kept : DeviceHeard → Bool
is_kept Message = true
is_kept Part = true
is_kept _ = false

-- The device gives what it said last, if that is asked for and there is such a message; else the first message that waits; and
-- if none waits, any status message.
abbrev pub MayGive : Bool → Option Item → List Item → Item → Type 0
MayGive true (Some last) waiting x = x ≡ last
MayGive true None waiting x = Unit {0}
MayGive false last (first ∷ waiting) x = x ≡ first
MayGive false last [] x = Unit {0}

-- It may need time for any poll. It rejects one that asks for the last message only if there is none.
abbrev pub MayDecline : Bool → Option Item → DeviceHeard → Type 0
MayDecline again last (NotYet tenths) = Unit {0}
MayDecline again last _ = again ≡ true → last ≡ None

abbrev pub IsReply : Device → Frame → Reply → Type 0
IsReply d request Silence = Unit {0}
IsReply d request (Gives f r) =
    IsFrame f × IsReplyTo request f r × (is_kept (poll_heard f.pid r) ≡ true) × MayGive (asks_again request) d.last d.waiting (item_in f r)
IsReply d request (Declines f r) =
    IsFrame f × IsReplyTo request f r × (is_kept (poll_heard f.pid r) ≡ false) × MayDecline (asks_again request) d.last (poll_heard f.pid r)

-- what it gives becomes the last message, and the next one leaves the queue unless the last was asked for
abbrev pub after_giving : Bool → Device → Item → Device
after_giving true d x = record d { last = Some x }
after_giving false d x = record { waiting = drop 1 d.waiting; last = Some x }

abbrev pub after_reply : Device → Frame → Reply → Device
after_reply d request Silence = d
after_reply d request (Gives f r) = after_giving (asks_again request) d (item_in f r)
after_reply d request (Declines f r) = d

-- ---- what happens

-- A message enters the device's queue. Or the collector sends a command, or polls; before the transaction is over it hears these
-- bytes, one after the other.
pub data Event : Type 0 where
  Arrived : Item → Event
  Asked : Command → (heard : List (List ℕ)) → Event
  Polled : Reply → (heard : List (List ℕ)) → Event

-- The bytes reply to no such request: they are no frame, as when one was altered; or they are one of another device, for another
-- controller, or with another number, as an answer that comes too late; or they are no response.
abbrev pub IsNoise : Frame → List ℕ → Type 0
IsNoise request bytes = (f : Frame) (r : Response) → frame_in bytes ≡ Some f → ¬ IsReplyTo request f r

-- After a poll the collector hears the reply or noise.
abbrev pub MayHear : Frame → Reply → List ℕ → Type 0
MayHear request Silence bytes = IsNoise request bytes
MayHear request (Gives f r) bytes = (bytes ≡ frame_text f) ⊎ IsNoise request bytes
MayHear request (Declines f r) bytes = (bytes ≡ frame_text f) ⊎ IsNoise request bytes

-- the request of the poll that is next
abbrev pub poll_of : DeviceState → Frame
poll_of s = poll_request (sender s)

-- The event may be next. A command is one that isn't refused, and after it the collector may hear anything; it leaves the
-- device's queue and its last message alone.
abbrev pub IsNext : DeviceState → Device → Event → Type 0
IsNext s d (Arrived x) = Unit {0}
IsNext s d (Asked c heard) = refusal_of (sender s) c ≡ None
IsNext s d (Polled reply heard) = IsReply d (poll_of s) reply × All (λ bytes. MayHear (poll_of s) reply bytes) heard

-- the device and the collector after it: each transaction is over before the next event
abbrev pub device_after : DeviceState → Device → Event → Device
device_after s d (Arrived x) = record d { waiting = d.waiting ++ x ∷ [] }
device_after s d (Asked c heard) = d
device_after s d (Polled reply heard) = after_reply d (poll_of s) reply

abbrev pub after : DeviceState → Event → DeviceState
after s (Arrived x) = s
after s (Asked c heard) = after_over (fold after_hearing (after_ask s c) heard)
after s (Polled reply heard) = after_over (fold after_hearing (after_poll s) heard)

abbrev pub after_all : DeviceState → List Event → DeviceState
after_all s events = fold after s events

-- the device after these events
abbrev pub device_after_all : DeviceState → Device → List Event → Device
device_after_all s d [] = d
device_after_all s d (e ∷ es) = device_after_all (after s e) (device_after s d e) es

-- These events happen in turn.
abbrev pub IsRun : DeviceState → Device → List Event → Type 0
IsRun s d [] = Unit {0}
IsRun s d (e ∷ es) = IsNext s d e × IsRun (after s e) (device_after s d e) es

-- what the device gave, again or not, whether or not it was heard
abbrev pub dispensed_by : Event → List Item
dispensed_by (Arrived x) = []
dispensed_by (Asked c heard) = []
dispensed_by (Polled Silence heard) = []
dispensed_by (Polled (Gives f r) heard) = item_in f r ∷ []
dispensed_by (Polled (Declines f r) heard) = []

abbrev pub dispensed : List Event → List Item
dispensed es = flat_map dispensed_by es

-- the messages that entered its queue
abbrev pub arrived_by : Event → List Item
arrived_by (Arrived x) = x ∷ []
arrived_by (Asked c heard) = []
arrived_by (Polled reply heard) = []

abbrev pub arrived : List Event → List Item
arrived es = flat_map arrived_by es
