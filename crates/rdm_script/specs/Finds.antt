-- Which fixture a transaction finds: the one that acknowledges its DISC_MUTE. E1.20 section 7.6.
use Rattle.std.specs.Prelude.{ℕ, Bool, true, false, not, ◌==◌, ◌&&◌, if◌then◌else◌, List, Option, Some, None}
use Rattle.std.specs.Option.{option_and_then}
use Rattle.rdm_frame.specs.declared.uid.Uid.{Uid}
use Rattle.rdm_frame.specs.declared.frame.Frame.{Frame}
use Rattle.rdm_frame.specs.Addressing.{same_uid, is_broadcast}
use Rattle.rdm_frame.specs.Reading.{frame_in}
use Rattle.rdm_bus.specs.declared.event.Event.{Event}
use Rattle.rdm_bus.specs.declared.event.Event.TheVariants.{Bus, Arrived, Changed}
use Rattle.rdm_collector.specs.declared.transaction.Heard.{Heard as TheHeard}
use Rattle.rdm_collector.specs.declared.transaction.Heard.TheVariants as heard

-- a DISC_MUTE for one device
abbrev pub is_mute : Frame → Bool
is_mute f = (f.class == 0x10) && ((f.pid == 0x0002) && not (is_broadcast f.dst))

-- a reply of that device whose response type is ACK
abbrev pub is_ack_of : Uid → Frame → Bool
is_ack_of uid f = (f.port == 0x00) && same_uid f.src uid

-- the device that this reply to a request finds
abbrev pub found_by : Frame → Frame → Option Uid
found_by request reply = if is_mute request && is_ack_of request.dst reply then Some request.dst else None

-- the same of the bytes of a reply
abbrev pub found_of : Frame → Option (List ℕ) → Option Uid
found_of request reply = option_and_then (λ bytes. option_and_then (found_by request) (frame_in bytes)) reply

-- the controller took what it heard for the reply to its command
abbrev pub is_reply : Option TheHeard → Bool
is_reply None = false
is_reply (Some heard.Message) = false
is_reply (Some heard.Reply) = true
is_reply (Some heard.Ignored) = false

-- The fixture that an event finds. A reply that the controller doesn't hear as one finds nobody.
unfoldable pub found_in : Event → Option Uid
found_in (Bus sent poll fault reply job heard) =
    if is_reply heard then option_and_then (λ request. found_of request reply) (frame_in sent) else None
found_in (Arrived report message kept) = None
found_in (Changed change message) = None
