-- What is so of each run of a conversation.
use Rattle.std.proofs.Common.{◌≡◌, ◌≢◌, ℕ, ◌-◌, Bool, true, false, cond, nat_lt, List, [], ◌∷◌, Option, Some, None, refl, sym, ap, subst, ◌∙◌}
use Rattle.std.specs.Option.{option_map_or}
use Rattle.rdm_frame.specs.declared.status.Entry.{Entry}
use Rattle.rdm_collector.specs.declared.command.Action.{Action}
use Rattle.rdm_collector.specs.declared.command.Action.TheVariants.{Disc, Get, Set}
use Rattle.rdm_collector.specs.declared.command.Command.{Command}
use Rattle.rdm_collector.specs.declared.reply.Response.{Response}
use Rattle.rdm_collector.specs.declared.reply.Response.TheVariants.{Ack, AckTimer, Nack, AckOverflow}
use Rattle.rdm_console.specs.declared.mailbox.Sorted.TheVariants as sorted
use Rattle.rdm_console.specs.declared.mailbox.Came.{Came}
use Rattle.rdm_console.specs.declared.mailbox.Came.TheVariants as came
use Rattle.rdm_console.specs.declared.fetching.Fetched.{Fetched}
use Rattle.rdm_console.specs.declared.fetching.Fetched.TheVariants as fetched
use Rattle.rdm_console.specs.declared.awaiting.Verdict.{Verdict}
use Rattle.rdm_console.specs.declared.awaiting.Verdict.TheVariants as verdict
use Rattle.rdm_console.specs.declared.conversation.Answered.{Answered}
use Rattle.rdm_console.specs.declared.conversation.Answered.TheVariants as answered
use Rattle.rdm_console.specs.declared.conversation.Lack.{Lack}
use Rattle.rdm_console.specs.declared.conversation.Lack.TheVariants as lack
use Rattle.rdm_console.specs.declared.conversation.Next.{Next}
use Rattle.rdm_console.specs.declared.conversation.Next.TheVariants as next
use Rattle.rdm_console.specs.Belonging.{Told, belongs}
use Rattle.rdm_console.specs.Endings.{Waiting, cause_in, verdict_by, verdict_on}
use Rattle.rdm_console.specs.Mailboxes.{Post}
use Rattle.rdm_console.specs.Conversations.{Talk, after_answer, after_fetch, after_fetched, after_letter, after_message, after_poll, after_verdict, ask_if, fetched_as, letter_of, without_queue}
use Rattle.rdm_console.specs.Runs.{AreInTime, AreNoCommands, AreSentOnce, BeginsByAsking, ConversationsAreLawful, Deed, EndsBy, IsInTime, IsNext, IsRun, IsTaken, MayEnd, Stand, begun, estimate, estimate_in, stand_after}
use Rattle.rdm_console.specs.Runs.Deed.{Asked, Polled, Waited}

-- ---- its command stays

letter_command : (w : Waiting) (o : Option Post) → (after_letter w o).command ≡ w.command
letter_command w None = refl
letter_command w (Some p) = refl

command_still : (s : Stand) (d : Deed) → (stand_after s d).talk.waiting.command ≡ s.talk.waiting.command
command_still s (Asked a) = refl
command_still s (Polled x p) = letter_command s.talk.waiting (letter_of (fetched_as s.talk.fetching x) p)
command_still s (Waited t) = refl

-- ---- the command is sent first

begins : (talk : Talk) (deeds : List Deed) (end : Stand) → IsRun (record { talk = talk; next = next.Ask }) deeds end → BeginsByAsking deeds
begins talk [] end run = tt
begins talk (Asked a ∷ ds) end run = tt
begins talk (Polled x p ∷ ds) end run = absurd run.0
begins talk (Waited t ∷ ds) end run = absurd run.0

-- ---- it is waited for as long as the device estimates

same_time : (t tenths : ℕ) → Some t ≡ Some tenths → next.Wait t ≡ next.Wait tenths
same_time t tenths e = cc

answer_waits : (talk : Talk) (a : Answered) (c : Command) (tenths : ℕ) → estimate c (Asked a) ≡ Some tenths → after_answer talk a ≡ next.Wait tenths
answer_waits talk (answered.By Ack) c tenths e = absurd cc
answer_waits talk (answered.By (AckTimer t)) c tenths e = same_time t tenths e
answer_waits talk (answered.By (Nack reason)) c tenths e = absurd cc
answer_waits talk (answered.By AckOverflow) c tenths e = absurd cc
answer_waits talk answered.Unknown c tenths e = absurd cc
answer_waits talk answered.Silent c tenths e = absurd cc

verdict_waits : (left : ℕ) (b : Bool) (r : Response) (v : Verdict) (tenths : ℕ) → cond b (estimate_in r) None ≡ Some tenths
    → after_verdict left (cond b (verdict_by r) v) ≡ next.Wait tenths
verdict_waits left true Ack v tenths e = absurd cc
verdict_waits left true (AckTimer t) v tenths e = same_time t tenths e
verdict_waits left true (Nack reason) v tenths e = absurd cc
verdict_waits left true AckOverflow v tenths e = absurd cc
verdict_waits left false r v tenths e = absurd cc

letter_waits : (left : ℕ) (w : Waiting) (m : Told) (tenths : ℕ) → cond (belongs w.command m) (estimate_in m.response) None ≡ Some tenths
    → after_verdict left (verdict_on w m) ≡ next.Wait tenths
unfolding verdict_on
letter_waits left w m tenths e =
    verdict_waits left (belongs w.command m) m.response (cond w.value_told (option_map_or verdict.Failed (cause_in w.command.sub m) verdict.Waits) verdict.Waits) tenths e

poll_waits : (talk : Talk) (x : Came) (p : Option Post) (tenths : ℕ) → estimate talk.waiting.command (Polled x p) ≡ Some tenths → after_poll talk x p ≡ next.Wait tenths
poll_waits talk (came.NotYet t) p tenths e = same_time t tenths e
poll_waits talk (came.Message sorted.Letter) (Some p) tenths e = letter_waits (talk.fetches_left - 1) talk.waiting p.told tenths e
poll_waits talk (came.Message sorted.Letter) None tenths e = absurd cc
poll_waits talk (came.Message sorted.Part) p tenths e = absurd cc
poll_waits talk (came.Message sorted.Repeat) p tenths e = absurd cc
poll_waits talk (came.Message sorted.Nothing) p tenths e = absurd cc
poll_waits talk came.Reply p tenths e = absurd cc
poll_waits talk came.NoQueue p tenths e = absurd cc
poll_waits talk (came.Refused reason) p tenths e = absurd cc
poll_waits talk came.Ignored p tenths e = absurd cc

waits : (s : Stand) (d : Deed) (tenths : ℕ) → estimate s.talk.waiting.command d ≡ Some tenths → (stand_after s d).next ≡ next.Wait tenths
waits s (Asked a) tenths e = answer_waits s.talk a s.talk.waiting.command tenths e
waits s (Polled x p) tenths e = poll_waits s.talk x p tenths e
waits s (Waited t) tenths e = absurd cc

is_waited : (tenths : ℕ) (d : Deed) → IsNext (next.Wait tenths) d → d ≡ Waited tenths
is_waited tenths (Asked a) n = absurd n
is_waited tenths (Polled x p) n = absurd n
is_waited tenths (Waited t) n = ap Waited n

next_in_time : (o : Option ℕ) (n : Next) (d : Deed) (ds : List Deed) → ((tenths : ℕ) → o ≡ Some tenths → n ≡ next.Wait tenths) → IsNext n d → IsInTime o (d ∷ ds)
next_in_time None n d ds w is = tt
next_in_time (Some tenths) n d ds w is = is_waited tenths d (subst (λ (k : Next). IsNext k d) (w tenths refl) is)

none_in_time : (o : Option ℕ) → IsInTime o []
none_in_time None = tt
none_in_time (Some tenths) = tt

step_in_time : (s : Stand) (d : Deed) (ds : List Deed) (end : Stand) → IsRun (stand_after s d) ds end → IsInTime (estimate s.talk.waiting.command d) ds
step_in_time s d [] end run = none_in_time (estimate s.talk.waiting.command d)
step_in_time s d (e ∷ es) end run = next_in_time (estimate s.talk.waiting.command d) (stand_after s d).next e es (waits s d) run.0

in_time : (s : Stand) (deeds : List Deed) (end : Stand) → IsRun s deeds end → AreInTime s.talk.waiting.command deeds
in_time s [] end run = tt
in_time s (d ∷ ds) end run = (
  step_in_time s d ds end run.1,
  subst (λ (c : Command). AreInTime c ds) (command_still s d) (in_time (stand_after s d) ds end run.1),
)

-- ---- what is no GET is sent once

poll_asks_not : (b : Bool) → cond b next.Poll (next.GiveUp lack.NoResult) ≡ next.Ask → ⊥
poll_asks_not true e = absurd cc
poll_asks_not false e = absurd cc

verdict_asks_not : (left : ℕ) (v : Verdict) → after_verdict left v ≡ next.Ask → ⊥
verdict_asks_not left verdict.Waits e = poll_asks_not (nat_lt 0 left) e
verdict_asks_not left verdict.Done e = absurd cc
verdict_asks_not left (verdict.Rejected reason) e = absurd cc
verdict_asks_not left (verdict.NeedsTime tenths) e = absurd cc
verdict_asks_not left (verdict.Failed entry) e = absurd cc

message_asks_not : (left : ℕ) (w : Waiting) (p : Option Post) → after_message left w p ≡ next.Ask → ⊥
message_asks_not left w None e = poll_asks_not (nat_lt 0 left) e
message_asks_not left w (Some p) e = verdict_asks_not left (verdict_on w p.told) e

no_queue_asks_not : (a : Action) → a ≢ Get → without_queue a ≡ next.Ask → ⊥
no_queue_asks_not Get other e = other refl
no_queue_asks_not Set other e = absurd cc
no_queue_asks_not Disc other e = absurd cc

fetched_asks_not : (left : ℕ) (w : Waiting) (p : Option Post) (f : Fetched) → w.command.action ≢ Get → after_fetched left w p f ≡ next.Ask → ⊥
fetched_asks_not left w p fetched.Message other e = message_asks_not left w p e
fetched_asks_not left w p fetched.Repeat other e = poll_asks_not (nat_lt 0 left) e
fetched_asks_not left w p fetched.Nothing other e = absurd cc
fetched_asks_not left w p fetched.NoQueue other e = no_queue_asks_not w.command.action other e
fetched_asks_not left w p (fetched.Refused reason) other e = no_queue_asks_not w.command.action other e
fetched_asks_not left w p (fetched.NotYet tenths) other e = absurd cc
fetched_asks_not left w p fetched.Silent other e = absurd cc
fetched_asks_not left w p fetched.Endless other e = absurd cc

fetch_asks_not : (t : Talk) (p : Option Post) (f : Option Fetched) → t.waiting.command.action ≢ Get → after_fetch t p f ≡ next.Ask → ⊥
fetch_asks_not t p None other e = absurd cc
fetch_asks_not t p (Some f) other e = fetched_asks_not (t.fetches_left - 1) t.waiting p f other e

-- a talk of the same command
other_still : (s : Stand) (d : Deed) → s.talk.waiting.command.action ≢ Get → (stand_after s d).talk.waiting.command.action ≢ Get
other_still s d other = subst (λ (c : Command). c.action ≢ Get) (sym (command_still s d)) other

asks_not : (n : Next) (a : Answered) → n ≢ next.Ask → IsNext n (Asked a) → ⊥
asks_not next.Ask a not is = not refl
asks_not next.Poll a not is = is
asks_not (next.Wait tenths) a not is = is
asks_not (next.Over r) a not is = is
asks_not (next.Failed entry) a not is = is
asks_not (next.GiveUp why) a not is = is

no_commands : (s : Stand) (deeds : List Deed) (end : Stand) → s.talk.waiting.command.action ≢ Get → s.next ≢ next.Ask → IsRun s deeds end → AreNoCommands deeds
no_commands s [] end other not run = tt
no_commands s (Asked a ∷ ds) end other not run = absurd (asks_not s.next a not run.0)
no_commands s (Polled x p ∷ ds) end other not run = (
  tt,
  no_commands (stand_after s (Polled x p)) ds end (other_still s (Polled x p) other) (fetch_asks_not s.talk p (fetched_as s.talk.fetching x) other) run.1,
)
no_commands s (Waited t ∷ ds) end other not run =
    (tt, no_commands (stand_after s (Waited t)) ds end other (poll_asks_not (nat_lt 0 s.talk.fetches_left)) run.1)

wait_is_no_ask : (tenths : ℕ) → next.Wait tenths ≢ next.Ask
wait_is_no_ask tenths e = absurd cc

once_taken : (s : Stand) (d : Deed) (ds : List Deed) (end : Stand) → s.talk.waiting.command.action ≢ Get → IsRun (stand_after s d) ds end → IsTaken d → AreNoCommands ds
once_taken s (Asked (answered.By (AckTimer t))) ds end other run taken = no_commands (stand_after s (Asked (answered.By (AckTimer t)))) ds end other (wait_is_no_ask t) run
once_taken s (Asked (answered.By Ack)) ds end other run taken = absurd taken
once_taken s (Asked (answered.By (Nack reason))) ds end other run taken = absurd taken
once_taken s (Asked (answered.By AckOverflow)) ds end other run taken = absurd taken
once_taken s (Asked answered.Unknown) ds end other run taken = absurd taken
once_taken s (Asked answered.Silent) ds end other run taken = absurd taken
once_taken s (Polled x p) ds end other run taken = absurd taken
once_taken s (Waited t) ds end other run taken = absurd taken

once : (s : Stand) (deeds : List Deed) (end : Stand) → s.talk.waiting.command.action ≢ Get → IsRun s deeds end → AreSentOnce deeds
once s [] end other run = tt
once s (d ∷ ds) end other run = (once_taken s d ds end other run.1, once (stand_after s d) ds end (other_still s d other) run.1)

-- ---- how it ends

poll_may : (c : Command) (b : Bool) (d : Deed) → MayEnd c (cond b next.Poll (next.GiveUp lack.NoResult)) d
poll_may c true d = tt
poll_may c false d = tt

ask_may : (c : Command) (b : Bool) (why : Lack) (d : Deed) → MayEnd c (ask_if b why) d
ask_may c true why d = tt
ask_may c false why d = tt

answer_may : (c : Command) (talk : Talk) (a : Answered) → MayEnd c (after_answer talk a) (Asked a)
answer_may c talk (answered.By Ack) = refl
answer_may c talk (answered.By (AckTimer t)) = tt
answer_may c talk (answered.By (Nack reason)) = refl
answer_may c talk (answered.By AckOverflow) = ask_may c (nat_lt 1 talk.answering.left) lack.Endless (Asked (answered.By AckOverflow))
answer_may c talk answered.Unknown = tt
answer_may c talk answered.Silent = ask_may c (nat_lt 1 talk.answering.tries) lack.Silent (Asked answered.Silent)

cause_may : (c : Command) (left : ℕ) (p : Post) (told : Bool) (cause : Option Entry) → cause_in c.sub p.told ≡ cause
    → MayEnd c (after_verdict left (cond told (option_map_or verdict.Failed cause verdict.Waits) verdict.Waits)) (Polled (came.Message sorted.Letter) (Some p))
cause_may c left p true (Some entry) e = e
cause_may c left p true None e = poll_may c (nat_lt 0 left) _
cause_may c left p false cause e = poll_may c (nat_lt 0 left) _

verdict_may : (c : Command) (left : ℕ) (p : Post) (told : Bool) (b : Bool) (r : Response) → belongs c p.told ≡ b → p.told.response ≡ r
    → MayEnd c (after_verdict left (cond b (verdict_by r) (cond told (option_map_or verdict.Failed (cause_in c.sub p.told) verdict.Waits) verdict.Waits))) (Polled (came.Message sorted.Letter) (Some p))
verdict_may c left p told true Ack b r = (b, r)
verdict_may c left p told true (AckTimer t) b r = tt
verdict_may c left p told true (Nack reason) b r = (b, r)
verdict_may c left p told true AckOverflow b r = poll_may c (nat_lt 0 left) _
verdict_may c left p told false response b r = cause_may c left p told (cause_in c.sub p.told) refl

letter_may : (left : ℕ) (w : Waiting) (p : Post) → MayEnd w.command (after_verdict left (verdict_on w p.told)) (Polled (came.Message sorted.Letter) (Some p))
unfolding verdict_on
letter_may left w p = verdict_may w.command left p w.value_told (belongs w.command p.told) p.told.response refl refl

no_queue_may : (c : Command) (a : Action) (d : Deed) → MayEnd c (without_queue a) d
no_queue_may c Get d = tt
no_queue_may c Set d = tt
no_queue_may c Disc d = tt

more_may : (c : Command) (talk : Talk) (p : Option Post) (b : Bool) (d : Deed) → MayEnd c (after_fetch talk p (cond b None (Some fetched.Endless))) d
more_may c talk p true d = tt
more_may c talk p false d = tt

silent_may : (c : Command) (talk : Talk) (p : Option Post) (b more : Bool) (d : Deed)
    → MayEnd c (after_fetch talk p (cond b (cond more None (Some fetched.Endless)) (Some fetched.Silent))) d
silent_may c talk p true more d = more_may c talk p more d
silent_may c talk p false more d = tt

poll_ends : (talk : Talk) (x : Came) (p : Option Post) → MayEnd talk.waiting.command (after_poll talk x p) (Polled x p)
poll_ends talk (came.Message sorted.Letter) (Some p) = letter_may (talk.fetches_left - 1) talk.waiting p
poll_ends talk (came.Message sorted.Letter) None = poll_may talk.waiting.command (nat_lt 0 (talk.fetches_left - 1)) _
poll_ends talk (came.Message sorted.Part) p = more_may talk.waiting.command talk p (nat_lt 1 talk.fetching.left) _
poll_ends talk (came.Message sorted.Repeat) p = poll_may talk.waiting.command (nat_lt 0 (talk.fetches_left - 1)) _
poll_ends talk (came.Message sorted.Nothing) p = tt
poll_ends talk came.Reply p = silent_may talk.waiting.command talk p (nat_lt 1 talk.fetching.tries) (nat_lt 1 talk.fetching.left) _
poll_ends talk came.Ignored p = silent_may talk.waiting.command talk p (nat_lt 1 talk.fetching.tries) (nat_lt 1 talk.fetching.left) _
poll_ends talk came.NoQueue p = no_queue_may talk.waiting.command talk.waiting.command.action _
poll_ends talk (came.Refused reason) p = no_queue_may talk.waiting.command talk.waiting.command.action _
poll_ends talk (came.NotYet tenths) p = tt

may_end : (s : Stand) (d : Deed) → MayEnd s.talk.waiting.command (stand_after s d).next d
may_end s (Asked a) = answer_may s.talk.waiting.command s.talk a
may_end s (Polled x p) = poll_ends s.talk x p
may_end s (Waited t) = poll_may s.talk.waiting.command (nat_lt 0 s.talk.fetches_left) (Waited t)

ends_by : (s : Stand) (d : Deed) (ds : List Deed) (end : Stand) → IsRun (stand_after s d) ds end → EndsBy s.talk.waiting.command end.next (d ∷ ds)
ends_by s d [] end run = subst (λ (e : Stand). MayEnd s.talk.waiting.command e.next d) (sym run) (may_end s d)
ends_by s d (e ∷ es) end run =
    subst (λ (c : Command). EndsBy c end.next (e ∷ es)) (command_still s d) (ends_by (stand_after s d) e es end run.1)

ends : (s : Stand) (deeds : List Deed) (end : Stand) → s.next ≡ next.Ask → IsRun s deeds end → EndsBy s.talk.waiting.command end.next deeds
ends s [] end ask run = ap (λ (e : Stand). e.next) run ∙ ask
ends s (d ∷ ds) end ask run = ends_by s d ds end run.1

pub conversations_are_lawful : ConversationsAreLawful
conversations_are_lawful c deeds end run = record {
  first = begins (begun c).talk deeds end run;
  in_time = in_time (begun c) deeds end run;
  once = λ other. once (begun c) deeds end other run;
  ends = ends (begun c) deeds end refl run;
}
