-- What a console sends to carry a command out, and when: it waits for as long as the device estimates, and then fetches the messages of its
-- queue, or sends the command again where it has none. E1.20 sections 6.3.2, 6.3.3 and 10.3.1.
use Rattle.std.specs.Prelude.{ℕ, ◌-◌, Bool, nat_lt, if◌then◌else◌, List, Option, Some, None}
use Rattle.std.specs.Option.{option_map_or}
use Rattle.rdm_collector.specs.declared.command.Action.{Action}
use Rattle.rdm_collector.specs.declared.command.Action.TheVariants.{Get}
use Rattle.rdm_collector.specs.declared.command.Command.{Command}
use Rattle.rdm_collector.specs.declared.reply.Response.TheVariants.{Ack, AckTimer, Nack, AckOverflow}
use Rattle.rdm_collector.specs.Replies.{Said, reply_in}
use Rattle.rdm_console.specs.declared.mailbox.Sorted.TheVariants as sorted
use Rattle.rdm_console.specs.declared.mailbox.Came.{Came}
use Rattle.rdm_console.specs.declared.mailbox.Came.TheVariants as came
use Rattle.rdm_console.specs.declared.fetching.Patience.{Patience}
use Rattle.rdm_console.specs.declared.fetching.Fetched.{Fetched}
use Rattle.rdm_console.specs.declared.fetching.Fetched.TheVariants as fetched
use Rattle.rdm_console.specs.declared.awaiting.Verdict.{Verdict}
use Rattle.rdm_console.specs.declared.awaiting.Verdict.TheVariants as verdict
use Rattle.rdm_console.specs.declared.conversation.Answered.{Answered}
use Rattle.rdm_console.specs.declared.conversation.Answered.TheVariants as answered
use Rattle.rdm_console.specs.declared.conversation.Lack.{Lack}
use Rattle.rdm_console.specs.declared.conversation.Lack.TheVariants as lack
use Rattle.rdm_console.specs.declared.conversation.Next.{Next}
use Rattle.rdm_console.specs.declared.conversation.Next.TheVariants as next
use Rattle.rdm_console.specs.Endings.{Waiting, new_waiting, verdict_on, after_hearing}
use Rattle.rdm_console.specs.Mailboxes.{Post}

-- ---- how often

-- Nothing came yet: there may be 300 parts, as many as a parameter of 65,536 slots has, and three requests in a row without an answer.
abbrev pub fresh : Patience
fresh = record { left = 300; tries = 3 }

-- a part came
abbrev pub with_part : Patience → Patience
with_part k = record { left = k.left - 1; tries = 3 }

-- a command wasn't answered
abbrev pub with_silence : Patience → Patience
with_silence k = record { left = k.left; tries = k.tries - 1 }

-- A poll wasn't: it counts as one of those that a message may take.
abbrev pub with_silent_poll : Patience → Patience
with_silent_poll k = record { left = k.left - 1; tries = k.tries - 1 }

-- ---- a message is fetched

-- nothing yet, and it is polled again at once, if it may be
abbrev pub more_of : Patience → Option Fetched
more_of k = if nat_lt 1 k.left then None else Some fetched.Endless

abbrev pub unanswered : Patience → Option Fetched
unanswered k = if nat_lt 1 k.tries then more_of k else Some fetched.Silent

-- What is fetched by a poll of which this came; nothing yet if it is a part, and not the last, or no answer.
abbrev pub fetched_as : Patience → Came → Option Fetched
fetched_as k (came.Message sorted.Letter) = Some fetched.Message
fetched_as k (came.Message sorted.Repeat) = Some fetched.Repeat
fetched_as k (came.Message sorted.Nothing) = Some fetched.Nothing
fetched_as k (came.Message sorted.Part) = more_of k
fetched_as k came.NoQueue = Some fetched.NoQueue
fetched_as k (came.Refused reason) = Some (fetched.Refused reason)
fetched_as k (came.NotYet tenths) = Some (fetched.NotYet tenths)
fetched_as k came.Reply = unanswered k
fetched_as k came.Ignored = unanswered k

-- with what is fetched it begins anew
abbrev pub patience_of : Option Fetched → Patience → Patience
patience_of None k = k
patience_of (Some f) k = fresh

abbrev pub spent : Patience → Came → Patience
spent k (came.Message x) = with_part k
spent k x = with_silent_poll k

abbrev pub patience_after : Patience → Came → Patience
patience_after k x = patience_of (fetched_as k x) (spent k x)

-- ---- a conversation

-- What a contract sees of a conversation: its command, and what was heard of it; how much longer it goes on with the reply, and with the
-- message that is fetched; and how many more messages may be.
pub record Talk : Type 0 where
  pub waiting : Waiting
  pub answering : Patience
  pub fetching : Patience
  pub fetches_left : ℕ

-- nothing was sent yet
abbrev pub new_talk : Command → Talk
new_talk c = record { waiting = new_waiting c; answering = fresh; fetching = fresh; fetches_left = 60 }

-- ---- an answer to the command

-- How the command was answered of which this came, and these bytes.
abbrev pub answered_as : Came → Option (List ℕ) → Answered
answered_as came.Reply (Some bytes) = option_map_or (λ (said : Said). answered.By said.response) (reply_in bytes) answered.Unknown
answered_as x heard = answered.Silent

abbrev pub ask_if : Bool → Lack → Next
ask_if may why = if may then next.Ask else next.GiveUp why

-- a message is fetched, if so many more may be
abbrev pub poll_if : ℕ → Next
poll_if left = if nat_lt 0 left then next.Poll else next.GiveUp lack.NoResult

-- What is done next: after ACK_OVERFLOW the same command fetches the next part, and after ACK_TIMER the result is fetched when the estimate is
-- over. Sections 6.3.2 and 6.3.3.
abbrev pub after_answer : Talk → Answered → Next
after_answer t (answered.By Ack) = next.Over Ack
after_answer t (answered.By (Nack reason)) = next.Over (Nack reason)
after_answer t (answered.By (AckTimer tenths)) = next.Wait tenths
after_answer t (answered.By AckOverflow) = ask_if (nat_lt 1 t.answering.left) lack.Endless
after_answer t answered.Unknown = next.GiveUp lack.Unknown
after_answer t answered.Silent = ask_if (nat_lt 1 t.answering.tries) lack.Silent

abbrev pub patience_behind : Patience → Answered → Patience
patience_behind k (answered.By AckOverflow) = with_part k
patience_behind k answered.Silent = with_silence k
patience_behind k _ = fresh

abbrev pub behind_answer : Talk → Answered → Talk
behind_answer t a = record t { answering = patience_behind t.answering a }

-- ---- what comes of a poll

-- the message that is handed on
abbrev pub letter_of : Option Fetched → Option Post → Option Post
letter_of (Some fetched.Message) p = p
letter_of f p = None

abbrev pub after_letter : Waiting → Option Post → Waiting
after_letter w None = w
after_letter w (Some p) = after_hearing w p.told

-- What a message says of the command, when so many more may be fetched.
abbrev pub after_verdict : ℕ → Verdict → Next
after_verdict left verdict.Waits = poll_if left
after_verdict left verdict.Done = next.Over Ack
after_verdict left (verdict.Rejected reason) = next.Over (Nack reason)
after_verdict left (verdict.NeedsTime tenths) = next.Wait tenths
after_verdict left (verdict.Failed entry) = next.Failed entry

abbrev pub after_message : ℕ → Waiting → Option Post → Next
after_message left w None = poll_if left
after_message left w (Some p) = after_verdict left (verdict_on w p.told)

-- Where a device gives no messages, a GET is sent again. Another command isn't, since it was carried out perhaps.
abbrev pub without_queue : Action → Next
without_queue Get = next.Ask
without_queue _ = next.GiveUp lack.NoQueue

-- What is done next, when this was fetched and so many more may be. Where nothing waits the result is still to come: it is polled for half a
-- second later. After ACK_TIMER of the poll itself it is as late as the device estimates. Sections 6.3.3 and 10.3.1.
abbrev pub after_fetched : ℕ → Waiting → Option Post → Fetched → Next
after_fetched left w p fetched.Message = after_message left w p
after_fetched left w p fetched.Repeat = poll_if left
after_fetched left w p fetched.Nothing = next.Wait 5
after_fetched left w p fetched.NoQueue = without_queue w.command.action
after_fetched left w p (fetched.Refused reason) = without_queue w.command.action
after_fetched left w p (fetched.NotYet tenths) = next.Wait tenths
after_fetched left w p fetched.Silent = next.GiveUp lack.Silent
after_fetched left w p fetched.Endless = next.GiveUp lack.Endless

-- Of a message in parts the next one is polled for at once, and a poll that isn't answered is sent again.
abbrev pub after_fetch : Talk → Option Post → Option Fetched → Next
after_fetch t p None = next.Poll
after_fetch t p (Some f) = after_fetched (t.fetches_left - 1) t.waiting p f

abbrev pub fetches_after : ℕ → Option Fetched → ℕ
fetches_after left None = left
fetches_after left (Some f) = left - 1

-- What is done next, when this came of a poll, and the mailbox has this message; and the conversation then.
abbrev pub after_poll : Talk → Came → Option Post → Next
after_poll t x p = after_fetch t p (fetched_as t.fetching x)

abbrev pub behind_poll : Talk → Came → Option Post → Talk
behind_poll t x p = record {
  waiting = after_letter t.waiting (letter_of (fetched_as t.fetching x) p);
  answering = t.answering;
  fetching = patience_after t.fetching x;
  fetches_left = fetches_after t.fetches_left (fetched_as t.fetching x);
}

-- what is done next, when it was waited
abbrev pub after_wait : Talk → Next
after_wait t = poll_if t.fetches_left
