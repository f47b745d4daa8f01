-- What a controller sends that fetches the messages of one device, and which frames are that device's. E1.20 sections 6.2 and
-- 10.3.1.
use Rattle.std.specs.Prelude.{ℕ, ◌+◌, ◌%◌, Bool, true, false, ◌&&◌, nat_lt, if◌then◌else◌, List, length, Option, Some, None, is_some}
use Rattle.std.specs.Option.{option_and_then}
use Rattle.rdm_frame.specs.declared.uid.Uid.{Uid}
use Rattle.rdm_frame.specs.declared.frame.Frame.{Frame}
use Rattle.rdm_frame.specs.Addressing.{same_uid}
use Rattle.rdm_frame.specs.Reading.{frame_in}
use Rattle.rdm_collector.specs.declared.command.Command.{Command}
use Rattle.rdm_collector.specs.declared.want.Want.{Want}
use Rattle.rdm_collector.specs.declared.transaction.Transaction.{Transaction}
use Rattle.rdm_collector.specs.declared.transaction.Transaction.TheVariants as transaction
use Rattle.rdm_collector.specs.declared.sender.AskError.{AskError}
use Rattle.rdm_collector.specs.declared.sender.AskError.TheVariants as ask
use Rattle.rdm_collector.specs.declared.sender.PollError.{PollError}
use Rattle.rdm_collector.specs.declared.sender.PollError.TheVariants as poll
use Rattle.rdm_collector.specs.Requests.{class_of, request_of, is_reserved, type_of, queued_message}

-- What a contract sees of a sender: its UID and that of its target, the device whose messages it fetches; what it wants of it; the
-- number of the next transaction, and the open one; and whether the last poll has no answer.
pub record SenderState : Type 0 where
  pub uid : Uid
  pub target : Uid
  pub want : Want
  pub tn : ℕ
  pub transaction : Option Transaction
  pub unanswered : Bool

-- nothing was sent yet
abbrev pub new_sender : Uid → Uid → Want → SenderState
new_sender uid target want =
    record { uid = uid; target = target; want = want; tn = 0; transaction = None; unanswered = false }

-- ---- commands

-- Why a command isn't sent: its parameter ID is reserved; else a transaction is open; else its data don't fit a frame.
abbrev pub refusal_of : SenderState → Command → Option AskError
refusal_of s c =
    if is_reserved c.pid then Some ask.Reserved
    else (if is_some s.transaction then Some ask.Busy
    else (if nat_lt 231 (length c.load) then Some ask.TooLong else None))

-- a request is sent: the transaction numbers count up modulo 256, and it waits for its answer
abbrev pub after_request : SenderState → Transaction → SenderState
after_request s t = record s { tn = (s.tn + 1) % 256; transaction = Some t }

-- the request of a command, and the sender after it
abbrev pub command_request : SenderState → Command → Frame
command_request s c = request_of s.uid s.tn c

abbrev pub after_ask : SenderState → Command → SenderState
after_ask s c = after_request s (transaction.Command s.tn (class_of c.action) c.sub c.pid)

-- ---- polls

-- Why no poll is sent: a transaction is open.
abbrev pub poll_refusal : SenderState → Option PollError
poll_refusal s = if is_some s.transaction then Some poll.Busy else None

-- The status type of a poll: what is wanted, or the last message again (STATUS_GET_LAST_MESSAGE) if the last poll has no
-- answer. Table A-4.
abbrev pub poll_type : SenderState → ℕ
poll_type s = if s.unanswered then 0x01 else type_of s.want

-- the request of a poll, and the sender after it
abbrev pub poll_request : SenderState → Frame
poll_request s = request_of s.uid s.tn (queued_message s.target (poll_type s))

abbrev pub after_poll : SenderState → SenderState
after_poll s = record (after_request s (transaction.Poll s.tn)) { unanswered = true }

-- ---- answers

-- The frame goes from the target to the sender. Sections 6.2.4 and 6.2.5.
abbrev pub is_from_target : SenderState → Frame → Bool
is_from_target s f = same_uid f.src s.target && same_uid f.dst s.uid

-- the frame that bytes are the text of, if it goes from the target to the sender
abbrev pub frame_from_target : SenderState → List ℕ → Option Frame
frame_from_target s bytes = option_and_then (λ f. if is_from_target s f then Some f else None) (frame_in bytes)

-- the open transaction, if there is one, is over
abbrev pub after_over : SenderState → SenderState
after_over s = record s { transaction = None }

-- It is over, and with it a poll; the next poll asks for the last message again exactly if that is wanted.
abbrev pub after_answer : SenderState → Bool → SenderState
after_answer s again = record (after_over s) { unanswered = again }
