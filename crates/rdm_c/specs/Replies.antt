-- A reply as the numbers that C has of it.
use Rattle.std.specs.Prelude.{◌≡◌, ℕ, length, take}
use Rattle.rdm_collector.specs.Replies.{Said}
use Rattle.rdm_collector.specs.declared.reply.Response.{Response}
use Rattle.rdm_collector.specs.declared.reply.Response.TheVariants.{Ack, AckTimer, Nack, AckOverflow}
use Rattle.rdm_c.specs.declared.reply.ReplyNumbers.{ReplyNumbers}

-- the response type. E1.20 table A-2.
abbrev pub type_of : Response → ℕ
type_of Ack = 0x00
type_of (AckTimer tenths) = 0x01
type_of (Nack reason) = 0x02
type_of AckOverflow = 0x03

-- the reason of a NACK_REASON, or 0
abbrev pub reason_of : Response → ℕ
reason_of Ack = 0
reason_of (AckTimer tenths) = 0
reason_of (Nack reason) = reason
reason_of AckOverflow = 0

-- the estimate of an ACK_TIMER in tenths of a second, or 0
abbrev pub tenths_of : Response → ℕ
tenths_of Ack = 0
tenths_of (AckTimer tenths) = tenths
tenths_of (Nack reason) = 0
tenths_of AckOverflow = 0

-- The numbers say what the response says.
pub record Says (n : ReplyNumbers) (said : Said) : Type 0 where
  pub type : n.kind ≡ type_of said.response
  pub reason : n.reason ≡ reason_of said.response
  pub tenths : n.tenths ≡ tenths_of said.response
  pub maker : n.maker ≡ said.src.maker
  pub device : n.device ≡ said.src.device
  pub waiting : n.waiting ≡ said.waiting
  pub sub : n.sub ≡ said.sub
  pub class : n.command_class ≡ said.class
  pub pid : n.pid ≡ said.pid
  pub count : n.count ≡ length said.body
  pub body : take n.count n.bytes ≡ said.body
