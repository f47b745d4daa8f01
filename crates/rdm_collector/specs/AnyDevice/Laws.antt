-- What a collector for any device records of what the device said. E1.20 sections 6.3 and 10.3.1.
use Rattle.std.specs.Prelude.{◌≡◌, ◌≢◌, ℕ, ◌+◌, ◌%◌, Bool, false, List, [], ◌∷◌, ◌++◌, map}
use Rattle.rdm_frame.specs.declared.frame.Frame.{Frame}
use Rattle.rdm_frame.specs.FrameText.{frame_text, IsFrame}
use Rattle.rdm_collector.specs.declared.reply.Response.{Response}
use Rattle.rdm_collector.specs.declared.any_device.heard.DeviceHeard.TheVariants.{NotYet}
use Rattle.rdm_collector.specs.declared.any_device.collected.Collected.{Collected}
use Rattle.rdm_collector.specs.Requests.{type_of, queued_message, request_of}
use Rattle.rdm_collector.specs.AnyDevice.Answers.{poll_heard}
use Rattle.rdm_collector.specs.AnyDevice.Collecting.{DeviceState, after_poll, after_hearing}
use Rattle.rdm_collector.specs.AnyDevice.Devices.{Device, Event, IsReplyTo, IsRun, after_all, dispensed, poll_of}
use Rattle.rdm_collector.specs.AnyDevice.Items.{Item, item_of, same_item}
use Rattle.rdm_collector.specs.AnyDevice.Joining.{PrefixLaw}

-- What was recorded of these events is, joined, a prefix of what the device dispensed, at most one message shorter.
pub record RecordedAsDispensed (s : DeviceState) (events : List Event) : Type 0 where
  pub recorded : List Collected
  pub is_recorded : (after_all s events).recorded ≡ s.recorded ++ recorded
  pub prefix : PrefixLaw same_item (after_all s events).unanswered (dispensed events) (map item_of recorded)

-- It is so against any device that keeps a queue and a last message, whatever response types its replies have, whichever
-- requests and replies are lost or altered, and however many in a row.
abbrev pub AnyDeviceIsRecorded : Type 0
AnyDeviceIsRecorded = (s : DeviceState) (d : Device) (events : List Event) → IsRun s d events → RecordedAsDispensed s events

-- A reply to a poll that is heard answers it, whether it is a message, a deferred NACK, a part, or a NACK of the poll: the next
-- poll asks for the next message. Only after ACK_TIMER of QUEUED_MESSAGE itself it asks for the same once more.
abbrev pub AnswersGoOn : Type 0
AnswersGoOn =
    (s : DeviceState) (f : Frame) (r : Response) → IsFrame f → IsReplyTo (poll_of s) f r
    → ((tenths : ℕ) → poll_heard f.pid r ≢ NotYet tenths)
    → poll_of (after_hearing (after_poll s) (frame_text f)) ≡ request_of s.uid ((s.tn + 1) % 256) (queued_message s.target (type_of s.want))

-- What the prefix law rules out, of any two messages that don't say the same.
--
-- What was lost is skipped, as when the collector goes on though it heard nothing.
abbrev pub SkippingIsRefused : Type 0
SkippingIsRefused =
    (u : Bool) (lost next : Item) → same_item lost next ≡ false → ¬ PrefixLaw same_item u (lost ∷ next ∷ []) (next ∷ [])

-- Nothing is recorded, as when a deferred NACK isn't taken for a message.
abbrev pub RecordingNothingIsRefused : Type 0
RecordingNothingIsRefused =
    (u : Bool) (first second : Item) → same_item first second ≡ false → ¬ PrefixLaw same_item u (first ∷ second ∷ []) []
