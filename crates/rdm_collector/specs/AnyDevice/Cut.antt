-- A message that doesn't fit one response, cut into parts, and what a collector has of it. E1.20 sections 6.3.2 and 10.3.1.
use Rattle.std.specs.Prelude.{◌≡◌, ℕ, ◌==◌, Bool, true, false, List, [], ◌∷◌, ◌++◌, take, flat_map}
use Rattle.std.specs.List.{list_any}
use Rattle.rdm_frame.specs.declared.frame.Frame.{Frame}
use Rattle.rdm_frame.specs.declared.message.Message.{Message}
use Rattle.rdm_collector.specs.declared.reply.Response.{Response}
use Rattle.rdm_collector.specs.declared.reply.Response.TheVariants.{Ack, AckOverflow}
use Rattle.rdm_collector.specs.declared.any_device.collected.Collected.{Collected}
use Rattle.rdm_collector.specs.AnyDevice.Collecting.{DeviceState}
use Rattle.rdm_collector.specs.AnyDevice.Devices.{Device, Event, IsRun, after_all}
use Rattle.rdm_collector.specs.AnyDevice.Devices.Event.{Polled}
use Rattle.rdm_collector.specs.AnyDevice.Devices.Reply.{Gives}
use Rattle.rdm_collector.specs.AnyDevice.Items.{Item, same_item, type_code}
use Rattle.rdm_collector.specs.AnyDevice.Parts.{first_run, has_whole, is_sure, joined_data}

-- ---- a message in parts

-- ACK_OVERFLOW says that more of the message follows, and ACK that this is the end of it.
abbrev pub response_before : (others : List (List ℕ)) → Response
response_before [] = Ack
response_before (part ∷ others) = AckOverflow

-- The message in parts, whose data are these: each is a message of its command class, parameter and sub-device.
abbrev pub parts_of : Message → List (List ℕ) → List Item
parts_of m [] = []
parts_of m (part ∷ others) = record { response = response_before others; message = record m { body = part } } ∷ parts_of m others

-- The data of these parts, one behind the other, are those of the message.
abbrev pub AreCutFrom : Message → List (List ℕ) → Type 0
AreCutFrom m parts = flat_map (λ part. part) parts ≡ m.body

-- No two in a row say the same.
abbrev pub NeighboursDiffer : List Item → Type 0
NeighboursDiffer items = (before behind : List Item) (x y : Item) → items ≡ before ++ x ∷ y ∷ behind → same_item x y ≡ false

-- ---- what a collector has of it

-- the response type is ACK: no more follows
abbrev pub is_end : Collected → Bool
is_end c = type_code c.response == 0x00

-- Of what was recorded since the device gave the first part: the first message is whole exactly if its end was recorded, and its data
-- joined are then those of the message, if no two parts in a row say the same; else if each poll between the parts was answered.
pub record JoinedAsCut (m : Message) (parts : List (List ℕ)) (recorded : List Collected) : Type 0 where
  pub whole : has_whole recorded ≡ list_any is_end recorded
  pub differing : NeighboursDiffer (parts_of m parts) → has_whole recorded ≡ true → joined_data (take (first_run recorded) recorded) ≡ m.body
  pub sure : is_sure (take (first_run recorded) recorded) ≡ true → has_whole recorded ≡ true → joined_data (take (first_run recorded) recorded) ≡ m.body

pub record RecordedAsCut (s : DeviceState) (m : Message) (parts : List (List ℕ)) (events : List Event) : Type 0 where
  pub recorded : List Collected
  pub is_recorded : (after_all s events).recorded ≡ s.recorded ++ recorded
  pub joined : JoinedAsCut m parts recorded

-- It is so of any message that waits in parts, from the poll on at which the device gives its first part: whatever waits behind it or
-- arrives, whatever the device says after it, whichever requests and replies are lost or altered, and however many in a row.
abbrev pub CutMessagesAreJoined : Type 0
CutMessagesAreJoined =
    (s : DeviceState) (d : Device) (m : Message) (part : List ℕ) (parts : List (List ℕ)) (others : List Item)
    (f : Frame) (r : Response) (heard : List (List ℕ)) (events : List Event)
    → AreCutFrom m (part ∷ parts) → d.waiting ≡ parts_of m (part ∷ parts) ++ others → s.unanswered ≡ false
    → IsRun s d (Polled (Gives f r) heard ∷ events)
    → RecordedAsCut s m (part ∷ parts) (Polled (Gives f r) heard ∷ events)
