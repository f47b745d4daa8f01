-- Which frames answer a request. E1.20 sections 6.2.6 to 6.2.10.
use Rattle.std.specs.Prelude.{ℕ, ◌+◌, Bool, true, false, ◌&&◌, ◌||◌, ◌==◌, if◌then◌else◌, Option, Some, None}
use Rattle.rdm_frame.specs.declared.frame.Frame.{Frame}
use Rattle.rdm_frame.specs.declared.message.Message.{Message}
use Rattle.rdm_collector.specs.declared.transaction.Transaction.{Transaction}
use Rattle.rdm_collector.specs.declared.transaction.Transaction.TheVariants.{Poll, Command}
use Rattle.rdm_collector.specs.declared.transaction.Heard.{Heard}
use Rattle.rdm_collector.specs.declared.transaction.Heard.TheVariants as heard

-- The message that answers the poll with this transaction number: the response to a GET or a SET, of response type ACK.
-- Sections 6.3.1 and 10.3.1.
abbrev pub is_message : ℕ → Frame → Bool
is_message tn f = (f.tn == tn) && ((f.class == 0x21) || (f.class == 0x31)) && (f.port == 0)

-- The reply to a command with this transaction number, command class, sub-device and parameter ID: it has the class plus 1
-- and the others unchanged. Any response type will do.
abbrev pub is_reply : ℕ → ℕ → ℕ → ℕ → Frame → Bool
is_reply tn class sub pid f = (f.tn == tn) && (f.class == class + 1) && (f.sub == sub) && (f.pid == pid)

-- what the open transaction takes a frame for
abbrev pub taken_for : Option Transaction → Frame → Heard
taken_for None f = heard.Ignored
taken_for (Some (Poll tn)) f = if is_message tn f then heard.Message else heard.Ignored
taken_for (Some (Command tn class sub pid)) f = if is_reply tn class sub pid f then heard.Reply else heard.Ignored

-- The message that a response carries. Section 10.3.1.
abbrev pub message_of : Frame → Message
message_of f = record { class = f.class; pid = f.pid; sub = f.sub; body = f.body }

-- a poll waits for its answer
abbrev pub is_poll : Option Transaction → Bool
is_poll None = false
is_poll (Some (Poll tn)) = true
is_poll (Some (Command tn class sub pid)) = false
