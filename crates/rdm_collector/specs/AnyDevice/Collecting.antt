-- A collector for any device: what it sends, what it takes the answers for, and what it records. It sends what a collector of
-- `Collecting` sends. E1.20 sections 6.2, 6.3 and 10.3.1.
use Rattle.std.specs.Prelude.{ℕ, Bool, false, ◌||◌, if◌then◌else◌, List, [], ◌∷◌, ◌++◌, Option}
use Rattle.std.specs.Option.{option_map_or}
use Rattle.rdm_frame.specs.declared.uid.Uid.{Uid}
use Rattle.rdm_frame.specs.declared.frame.Frame.{Frame}
use Rattle.rdm_frame.specs.Reading.{frame_in}
use Rattle.rdm_collector.specs.declared.command.Command.{Command}
use Rattle.rdm_collector.specs.declared.want.Want.{Want}
use Rattle.rdm_collector.specs.declared.transaction.Transaction.{Transaction}
use Rattle.rdm_collector.specs.declared.reply.Response.{Response}
use Rattle.rdm_collector.specs.declared.any_device.heard.DeviceHeard.{DeviceHeard}
use Rattle.rdm_collector.specs.declared.any_device.heard.DeviceHeard.TheVariants as heard
use Rattle.rdm_collector.specs.declared.any_device.heard.Taken.{Taken}
use Rattle.rdm_collector.specs.declared.any_device.heard.Taken.TheVariants as taken
use Rattle.rdm_collector.specs.declared.any_device.collected.Collected.{Collected}
use Rattle.rdm_collector.specs.Answers.{message_of}
use Rattle.rdm_collector.specs.Sending.{SenderState, new_sender, is_from_target}
use Rattle.rdm_collector.specs.Sending as sending
use Rattle.rdm_collector.specs.AnyDevice.Answers.{taken_for, poll_heard}

-- What a contract sees of a collector for any device: its UID and that of the device, what it wants, the number of its next
-- transaction, and the open one; whether the last poll asked for the last message again, and whether the next one will, since
-- the last has no answer; whether a poll before the last has none, of those since something was recorded; and what was recorded.
pub record DeviceState : Type 0 where
  pub uid : Uid
  pub target : Uid
  pub want : Want
  pub tn : ℕ
  pub transaction : Option Transaction
  pub again : Bool
  pub unanswered : Bool
  pub lost : Bool
  pub recorded : List Collected

-- ---- what is sent

-- the collector with this sender that recorded these messages
abbrev pub collector_with : SenderState → (again lost : Bool) → List Collected → DeviceState
collector_with s again lost recorded = record {
  uid = s.uid;
  target = s.target;
  want = s.want;
  tn = s.tn;
  transaction = s.transaction;
  again = again;
  unanswered = s.unanswered;
  lost = lost;
  recorded = recorded;
}

-- nothing was sent yet
abbrev pub new_device_collector : Uid → Uid → Want → DeviceState
new_device_collector uid target want = collector_with (new_sender uid target want) false false []

-- The sender of a collector. What is sent, and why a command isn't, is what it says.
abbrev pub sender : DeviceState → SenderState
sender s =
    record { uid = s.uid; target = s.target; want = s.want; tn = s.tn; transaction = s.transaction; unanswered = s.unanswered }

-- a command is sent
abbrev pub after_ask : DeviceState → Command → DeviceState
after_ask s c = collector_with (sending.after_ask (sender s) c) s.again s.lost s.recorded

-- A poll is sent. It asks for the last message again if the poll before it has no answer, and that one counts as lost.
abbrev pub after_poll : DeviceState → DeviceState
after_poll s = collector_with (sending.after_poll (sender s)) s.unanswered (s.lost || s.unanswered) s.recorded

-- the open transaction, if there is one, is over
abbrev pub after_over : DeviceState → DeviceState
after_over s = collector_with (sending.after_over (sender s)) s.again s.lost s.recorded

-- ---- what is heard

-- what a frame from the target is heard as
abbrev pub heard_as : Frame → Taken → DeviceHeard
heard_as f (taken.Answer r) = poll_heard f.pid r
heard_as f taken.Reply = heard.Reply
heard_as f taken.Nothing = heard.Ignored

-- What bytes are heard as: as nothing unless they are a frame from the target to this collector.
abbrev pub heard_frame : DeviceState → Frame → DeviceHeard
heard_frame s f =
    if is_from_target (sender s) f then heard_as f (taken_for s.transaction f) else heard.Ignored

abbrev pub heard_in : DeviceState → List ℕ → DeviceHeard
heard_in s bytes = option_map_or (heard_frame s) (frame_in bytes) heard.Ignored

-- ---- what is then recorded

-- what is recorded of a message
abbrev pub collected : Bool → Bool → Frame → Response → Collected
collected again lost f r = record { response = r; message = message_of f; again = again; after_loss = lost }

-- The poll is answered, and the next one asks for the next message. A message is recorded. After ACK_TIMER the next poll asks
-- for what this one asked for, since that was not said yet.
abbrev pub after_answer : DeviceState → Collected → DeviceHeard → DeviceState
after_answer s c heard.Message = collector_with (sending.after_answer (sender s) false) s.again false (s.recorded ++ c ∷ [])
after_answer s c heard.Part = collector_with (sending.after_answer (sender s) false) s.again false (s.recorded ++ c ∷ [])
after_answer s c (heard.NotYet tenths) = collector_with (sending.after_answer (sender s) s.again) s.again s.lost s.recorded
after_answer s c _ = collector_with (sending.after_answer (sender s) false) s.again s.lost s.recorded

abbrev pub after_taken : DeviceState → Frame → Taken → DeviceState
after_taken s f (taken.Answer r) = after_answer s (collected s.again s.lost f r) (poll_heard f.pid r)
after_taken s f taken.Reply = after_over s
after_taken s f taken.Nothing = s

-- the collector after it heard a frame, and after it heard bytes
abbrev pub after_frame : DeviceState → Frame → DeviceState
after_frame s f =
    if is_from_target (sender s) f then after_taken s f (taken_for s.transaction f) else s

abbrev pub after_hearing : DeviceState → List ℕ → DeviceState
after_hearing s bytes = option_map_or (after_frame s) (frame_in bytes) s
