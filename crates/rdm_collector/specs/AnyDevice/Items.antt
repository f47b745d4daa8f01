-- What a device says to a poll, of whatever response type, and when it says the same again. E1.20 sections 6.3 and 10.3.1.
use Rattle.std.specs.Prelude.{ℕ, Bool, ◌&&◌, ◌==◌}
use Rattle.rdm_frame.specs.declared.frame.Frame.{Frame}
use Rattle.rdm_frame.specs.declared.message.Message.{Message}
use Rattle.rdm_collector.specs.declared.reply.Response.{Response}
use Rattle.rdm_collector.specs.declared.reply.Response.TheVariants.{Ack, AckTimer, Nack, AckOverflow}
use Rattle.rdm_collector.specs.declared.any_device.collected.Collected.{Collected}
use Rattle.rdm_collector.specs.Answers.{message_of}
use Rattle.rdm_collector.specs.Recording.{same_message}

-- A message with its response type.
pub record Item : Type 0 where
  pub response : Response
  pub message : Message

-- what a frame of this response type says, and what was recorded
abbrev pub item_in : Frame → Response → Item
item_in f r = record { response = r; message = message_of f }

abbrev pub item_of : Collected → Item
item_of c = record { response = c.response; message = c.message }

-- The code of a response type. Table A-2.
abbrev pub type_code : Response → ℕ
type_code Ack = 0x00
type_code (AckTimer tenths) = 0x01
type_code (Nack reason) = 0x02
type_code AckOverflow = 0x03

-- The two say the same: they have one response type, and their messages say the same. The number of a NACK or an ACK_TIMER is in
-- the data of its message.
unfoldable pub same_item : Item → Item → Bool
same_item x y = (type_code x.response == type_code y.response) && same_message x.message y.message
