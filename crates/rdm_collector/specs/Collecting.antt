-- What a controller sends that collects the messages of one device, what it takes the answers for, and what it records.
-- E1.20 sections 6.2 and 10.3.1.
use Rattle.std.specs.Prelude.{ℕ, Bool, false, if◌then◌else◌, List, [], ◌∷◌, ◌++◌, Option}
use Rattle.std.specs.Option.{option_map_or}
use Rattle.rdm_frame.specs.declared.uid.Uid.{Uid}
use Rattle.rdm_frame.specs.declared.frame.Frame.{Frame}
use Rattle.rdm_frame.specs.Reading.{frame_in}
use Rattle.rdm_frame.specs.declared.message.Message.{Message}
use Rattle.rdm_collector.specs.declared.command.Command.{Command}
use Rattle.rdm_collector.specs.declared.want.Want.{Want}
use Rattle.rdm_collector.specs.declared.transaction.Transaction.{Transaction}
use Rattle.rdm_collector.specs.declared.sender.AskError.{AskError}
use Rattle.rdm_collector.specs.declared.transaction.Heard.{Heard}
use Rattle.rdm_collector.specs.declared.transaction.Heard.TheVariants as heard
use Rattle.rdm_collector.specs.Answers.{message_of, taken_for}
use Rattle.rdm_collector.specs.Sending.{SenderState, new_sender, is_from_target, after_over, after_answer}
use Rattle.rdm_collector.specs.Sending as sending

-- What a contract sees of a collector: its UID and that of the device that it collects from, what it wants, the number of
-- its next transaction, the open transaction, whether the last poll has no answer, and the messages that it recorded.
pub record State : Type 0 where
  pub uid : Uid
  pub target : Uid
  pub want : Want
  pub tn : ℕ
  pub transaction : Option Transaction
  pub unanswered : Bool
  pub recorded : List Message

-- ---- what is sent

-- the collector with this sender that recorded these messages
abbrev pub collector_with : SenderState → List Message → State
collector_with s recorded =
    record { uid = s.uid; target = s.target; want = s.want; tn = s.tn; transaction = s.transaction; unanswered = s.unanswered; recorded = recorded }

-- nothing was sent yet
abbrev pub new_collector : Uid → Uid → Want → State
new_collector uid target want = collector_with (new_sender uid target want) []

-- The sender of a collector. What is sent, and why a command isn't, is what it says.
abbrev pub sender : State → SenderState
sender s =
    record { uid = s.uid; target = s.target; want = s.want; tn = s.tn; transaction = s.transaction; unanswered = s.unanswered }

abbrev pub refusal_of : State → Command → Option AskError
refusal_of s c = sending.refusal_of (sender s) c

-- the request of a command, and the collector after it
abbrev pub command_request : State → Command → Frame
command_request s c = sending.command_request (sender s) c

abbrev pub after_ask : State → Command → State
after_ask s c = collector_with (sending.after_ask (sender s) c) s.recorded

-- the status type of a poll
abbrev pub poll_type : State → ℕ
poll_type s = sending.poll_type (sender s)

-- the request of a poll, and the collector after it
abbrev pub poll_request : State → Frame
poll_request s = sending.poll_request (sender s)

abbrev pub after_poll : State → State
after_poll s = collector_with (sending.after_poll (sender s)) s.recorded

-- ---- what is heard

-- What a collector takes a frame for: nothing, if it isn't from the target to the collector.
abbrev pub heard_as : State → Frame → Heard
heard_as s f = if is_from_target (sender s) f then taken_for s.transaction f else heard.Ignored

-- What a collector takes bytes for: nothing, if they aren't a frame.
abbrev pub heard_in : State → List ℕ → Heard
heard_in s bytes = option_map_or (heard_as s) (frame_in bytes) heard.Ignored

-- the open transaction, if there is one, is over
abbrev pub without_transaction : State → State
without_transaction s = collector_with (after_over (sender s)) s.recorded

-- the collector after it took a frame for this: a message is recorded, and its poll is answered
abbrev pub after_frame : State → Frame → Heard → State
after_frame s f heard.Message = collector_with (after_answer (sender s) false) (s.recorded ++ message_of f ∷ [])
after_frame s f heard.Reply = without_transaction s
after_frame s f heard.Ignored = s

-- the collector after it heard bytes
abbrev pub after_hearing : State → List ℕ → State
after_hearing s bytes = option_map_or (λ f. after_frame s f (heard_as s f)) (frame_in bytes) s
