-- What the answer to a poll is, whatever its response type: all that a device may say to GET QUEUED_MESSAGE. E1.20 sections 6.3
-- and 10.3.1.
use Rattle.std.specs.Prelude.{ℕ, ◌&&◌, ◌||◌, ◌==◌, if◌then◌else◌, Option, Some, None}
use Rattle.std.specs.Option.{option_map_or}
use Rattle.rdm_frame.specs.declared.frame.Frame.{Frame}
use Rattle.rdm_collector.specs.declared.transaction.Transaction.{Transaction}
use Rattle.rdm_collector.specs.declared.transaction.Transaction.TheVariants.{Poll, Command}
use Rattle.rdm_collector.specs.declared.reply.Response.{Response}
use Rattle.rdm_collector.specs.declared.reply.Response.TheVariants.{Ack, AckTimer, Nack, AckOverflow}
use Rattle.rdm_collector.specs.declared.any_device.heard.DeviceHeard.{DeviceHeard}
use Rattle.rdm_collector.specs.declared.any_device.heard.DeviceHeard.TheVariants.{Message, Part, Unsupported, Refused, NotYet}
use Rattle.rdm_collector.specs.declared.any_device.heard.Taken.{Taken}
use Rattle.rdm_collector.specs.declared.any_device.heard.Taken.TheVariants as taken
use Rattle.rdm_collector.specs.Answers.{is_reply}
use Rattle.rdm_collector.specs.Replies.{response_in}

-- How a frame answers the poll with this transaction number: it is the response to a GET or a SET. Sections 6.2.6 and 6.3.
abbrev pub answer_to : ℕ → Frame → Option Response
answer_to tn f = if (f.tn == tn) && ((f.class == 0x21) || (f.class == 0x31)) then response_in f.port f.body else None

-- What the open transaction takes a frame from the target for.
abbrev pub taken_for : Option Transaction → Frame → Taken
taken_for None f = taken.Nothing
taken_for (Some (Poll tn)) f = option_map_or (λ r. taken.Answer r) (answer_to tn f) taken.Nothing
taken_for (Some (Command tn class sub pid)) f = if is_reply tn class sub pid f then taken.Reply else taken.Nothing

-- What an answer to a poll, of this parameter, is heard as. NACK and ACK_TIMER of QUEUED_MESSAGE itself are about the poll:
-- nothing leaves the device's queue. An answer of another parameter is a message of that queue, and so is a deferred NACK.
-- Sections 6.3.1 to 6.3.4; table A-17 has the reason of an unknown PID.
abbrev pub poll_heard : ℕ → Response → DeviceHeard
poll_heard pid Ack = Message
poll_heard pid (AckTimer tenths) = if pid == 0x0020 then NotYet tenths else Message
poll_heard pid (Nack reason) =
    if pid == 0x0020 then (if reason == 0x0000 then Unsupported else Refused reason) else Message
poll_heard pid AckOverflow = Part
