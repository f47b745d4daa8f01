-- Each message that waits or was given is a response to a GET or a SET.
use Rattle.std.proofs.Common.{◌≡◌, ℕ, zero, suc, ◌==◌, ◌||◌, Bool, true, false, cond, List, [], ◌∷◌, ◌++◌, take, drop, Option, Some, None, refl, sym, subst}
use Rattle.std.specs.Prelude.{fold, unwrap_or, nat_lt, length, slice_set}
use Rattle.std.specs.List.{AllByRecursion, position, slice_get}
use Rattle.std.specs.Option.{option_map_or}
use Rattle.rdm_frame.specs.Reading.{frame_in}
use Rattle.rdm_frame.specs.declared.message.Message.{Message}
use Rattle.rdm_frame.specs.declared.status.Entry.{Entry as StatusEntry}
use Rattle.rdm_commands.specs.declared.jobs.ask.Ask.{Ask}
use Rattle.rdm_commands.specs.declared.jobs.outcome.Outcome.{Outcome}
use Rattle.rdm_commands.specs.declared.jobs.outcome.Outcome.TheVariants.{Done, Reading, Failed}
use Rattle.rdm_commands.specs.declared.jobs.work.Work.{Work}
use Rattle.rdm_commands.specs.declared.panel.Change.{Change}
use Rattle.rdm_commands.specs.declared.verdict.Verdict.{Verdict}
use Rattle.rdm_commands.specs.declared.verdict.Verdict.TheVariants as verdict
use Rattle.rdm_params.specs.Commands.Commands.{got, answer_to_set}
use Rattle.rdm_params.specs.Commands.Panel.{can_change, after_change, told, change_message}
use Rattle.rdm_params.specs.Device.Parameters.{Parameters}
use Rattle.rdm_params.specs.Jobs.Commit.{after_commit, committed, message_of}
use Rattle.rdm_params.specs.Jobs.Thresholds.{notes}
use Rattle.rdm_params.specs.Jobs.Work.{worker_at}
use Rattle.rdm_outbox.specs.Account as outbox
use Rattle.rdm_outbox.specs.Jobs.{has_room, after_arrive}
use Rattle.rdm_outbox.specs.Messages.{is_last, last_or, last_of, next_of, after_next, in_place_of_same, tell_of_same, after_drop, dispensed, status_dispensed}
use Rattle.rdm_outbox.specs.Statuses.{can_note, after_note, status_message, status_now, after_status_now}
use Rattle.rdm_responder.specs.History.{Event, Heard, Arrived, Changed, Placed, Noted, Restored, Dropped, History}
use Rattle.rdm_responder.specs.Requests.{Request, Ignored, Branch, Muting, Get, Set, request_in}
use Rattle.rdm_responder.specs.Rules.{Account, account_of, account_before, account_after, account_with, outbox_after, newest_only, after_message, after_entry, after_outcome}
use Rattle.rdm_responder.specs.Runs.{outbox_of}

-- of the command class of a response to a GET or a SET
abbrev pub IsResponse : Message → Type 0
IsResponse m = ((m.class == 0x21) || (m.class == 0x31)) ≡ true

-- the messages of an outbox
pub record AreResponses (b : outbox.Account) : Type 0 where
  pub arrived : AllByRecursion IsResponse b.arrived
  pub answers : AllByRecursion IsResponse b.answers

all_push : (ms : List Message) (m : Message) → AllByRecursion IsResponse ms → IsResponse m → AllByRecursion IsResponse (ms ++ m ∷ [])
all_push [] m all is = (is, tt)
all_push (x ∷ ms) m all is = (all.0, all_push ms m all.1 is)

-- ---- what is given

last_is : (m : Message) (ms : List Message) → IsResponse m → AllByRecursion IsResponse ms → IsResponse (last_or m ms)
last_is m [] is all = is
last_is m (x ∷ ms) is all = last_is x ms all.0 all.1

next_is : (ms : List Message) (n : ℕ) (m : Message) → AllByRecursion IsResponse ms → IsResponse m → IsResponse (unwrap_or (slice_get ms n) m)
next_is [] n m all is = is
next_is (x ∷ ms) zero m all is = all.0
next_is (x ∷ ms) (suc n) m all is = next_is ms n m all.1 is

either : (t : Bool) (m n : Message) → IsResponse m → IsResponse n → IsResponse (cond t m n)
either true m n one other = one
either false m n one other = other

last_given : (b : outbox.Account) → AreResponses b → IsResponse (last_of b)
last_given b are = last_is (status_message []) b.answers refl are.answers

pub dispensed_is : (b : outbox.Account) (ask : Ask) → AreResponses b → IsResponse (dispensed b ask)
dispensed_is b ask are =
    either (is_last ask) (last_of b) (next_of b ask) (last_given b are) (next_is b.arrived b.gone (status_now b ask) are.arrived refl)

pub status_is : (b : outbox.Account) (ask : Ask) → AreResponses b → IsResponse (status_dispensed b ask)
status_is b ask are = either (is_last ask) (last_of b) (status_now b ask) (last_given b are) refl

-- ---- a request

if_so : (t : Bool) (b c : outbox.Account) → AreResponses b → AreResponses c → AreResponses (cond t b c)
if_so true b c one other = one
if_so false b c one other = other

same : (b c : outbox.Account) → c.arrived ≡ b.arrived → c.answers ≡ b.answers → AreResponses b → AreResponses c
same b c arrived answers are = record {
  arrived = subst (AllByRecursion IsResponse) (sym arrived) are.arrived;
  answers = subst (AllByRecursion IsResponse) (sym answers) are.answers;
}

status_given : (b : outbox.Account) (ask : Ask) → AreResponses b → AreResponses (after_status_now b ask)
status_given b ask are = record { arrived = are.arrived; answers = all_push b.answers (status_now b ask) are.answers refl }

next_given : (b : outbox.Account) (ask : Ask) → AreResponses b → AreResponses (after_next b ask)
next_given b ask are =
    if_so (nat_lt b.gone (length b.arrived)) _ (after_status_now b ask)
    (record { arrived = are.arrived; answers = all_push b.answers (next_of b ask) are.answers (next_is b.arrived b.gone (status_now b ask) are.arrived refl) })
    (status_given b ask are)

carried_out : (b : outbox.Account) (v : Verdict) → AreResponses b → AreResponses (outbox_after b v)
carried_out b (verdict.Start work) are = if_so (has_room b work) _ b (same b _ refl refl are) are
carried_out b (verdict.Queue ask) are = if_so (is_last ask) b (after_next b ask) are (next_given b ask are)
carried_out b (verdict.Status ask) are = if_so (is_last ask) b (after_status_now b ask) are (status_given b ask are)
carried_out b (verdict.Reply bytes) are = are
carried_out b verdict.Clear are = same b _ refl refl are
carried_out b (verdict.Refuse nack) are = are

requested : (a : Account) (q : Request) → AreResponses a.outbox → AreResponses (account_with a q).outbox
requested a Ignored are = are
requested a (Branch lower upper) are = are
requested a (Muting muted f) are = are
requested a (Get f) are = carried_out a.outbox (got a.parameters f.sub f.pid f.body) are
requested a (Set f) are = carried_out a.outbox (answer_to_set a.parameters f.sub f.pid f.body) are

-- ---- other events

dropped_one : (b : outbox.Account) → AreResponses b → AreResponses (after_drop b)
dropped_one b are = if_so (nat_lt b.gone (length b.arrived)) _ b (same b _ refl refl are) are

noted : (p : Parameters) (b : outbox.Account) (entry : StatusEntry) → AreResponses b → AreResponses (after_entry p b entry)
noted p b entry are = if_so (notes p entry) (after_note b entry) b (if_so (can_note b) _ b (same b _ refl refl are) are) are

ended : (p : Parameters) (b : outbox.Account) (work : Work) (outcome : Outcome) → AreResponses b → AreResponses (after_outcome p b work outcome)
ended p b work Done are = are
ended p b work (Reading v) are = are
ended p b work (Failed severity id v1 v2) are = noted p b _ are

message_is : (p : Parameters) (w : Work) (outcome : Outcome) → IsResponse (message_of p w outcome)
message_is p w Done = refl
message_is p w (Reading v) = refl
message_is p w (Failed severity id v1 v2) = refl

committed_is : (p : Parameters) (w : Work) (outcome : Outcome) → IsResponse (committed p w outcome)
unfolding committed
committed_is p w outcome = message_is (after_commit p w outcome) w outcome

arrived : (b : outbox.Account) (worker : ℕ) (m : Message) → IsResponse m → AreResponses b → AreResponses (after_arrive b worker m)
arrived b worker m is are = record { arrived = all_push b.arrived m are.arrived is; answers = are.answers }

-- the message of a change, if there is one
abbrev MayBeResponse : Option Message → Type 0
MayBeResponse None = Unit {0}
MayBeResponse (Some m) = IsResponse m

may_be : (t : Bool) (m : Message) → IsResponse m → MayBeResponse (cond t (Some m) None)
may_be true m is = is
may_be false m is = tt

change_is : (p : Parameters) (change : Change) → MayBeResponse (change_message p change)
unfolding change_message
change_is p change = may_be (can_change p change) (told (after_change p change) change) refl

-- those of them that stay
all_front : (n : ℕ) (ms : List Message) → AllByRecursion IsResponse ms → AllByRecursion IsResponse (take n ms)
all_front zero ms all = tt
all_front (suc n) [] all = tt
all_front (suc n) (x ∷ ms) all = (all.0, all_front n ms all.1)

all_behind : (n : ℕ) (ms : List Message) → AllByRecursion IsResponse ms → AllByRecursion IsResponse (drop n ms)
all_behind zero ms all = all
all_behind (suc n) [] all = tt
all_behind (suc n) (x ∷ ms) all = all_behind n ms all.1

all_set : (m : Message) (ms : List Message) (i : ℕ) → IsResponse m → AllByRecursion IsResponse ms → AllByRecursion IsResponse (slice_set ms i m)
all_set m [] i is all = tt
all_set m (x ∷ ms) zero is all = (is, all.1)
all_set m (x ∷ ms) (suc i) is all = (all.0, all_set m ms i is all.1)

placed_by : (m : Message) (ms : List Message) (place : Option ℕ) → IsResponse m → AllByRecursion IsResponse ms → AllByRecursion IsResponse (option_map_or (λ i. slice_set ms i m) place (ms ++ m ∷ []))
placed_by m ms None is all = all_push ms m all is
placed_by m ms (Some i) is all = all_set m ms i is all

all_placed : (m : Message) (ms : List Message) → IsResponse m → AllByRecursion IsResponse ms → AllByRecursion IsResponse (in_place_of_same m ms)
all_placed m ms is all = placed_by m ms (position (tell_of_same m) ms) is all

all_joined : (ms ns : List Message) → AllByRecursion IsResponse ms → AllByRecursion IsResponse ns → AllByRecursion IsResponse (ms ++ ns)
all_joined [] ns all more = more
all_joined (x ∷ ms) ns all more = (all.0, all_joined ms ns all.1 more)

posted : (newest : Bool) (b : outbox.Account) (message : Option Message) → MayBeResponse message → AreResponses b → AreResponses (after_message newest b message)
posted newest b None is are = are
posted true b (Some m) is are = record {
  arrived =
      all_joined (take b.gone b.arrived) (in_place_of_same m (drop b.gone b.arrived)) (all_front b.gone b.arrived are.arrived)
      (all_placed m (drop b.gone b.arrived) is (all_behind b.gone b.arrived are.arrived));
  answers = are.answers;
}
posted false b (Some m) is are = record { arrived = all_push b.arrived m are.arrived is; answers = are.answers }

-- ---- a history

happened : (a : Account) (e : Event) → AreResponses a.outbox → AreResponses (account_after a e).outbox
happened a (Heard bytes) are = requested a (request_in a.setup.uid (frame_in bytes)) are
happened a (Arrived r) are =
    ended (after_commit a.parameters r.job.work r.outcome) _ r.job.work r.outcome
    (arrived a.outbox (worker_at a.outbox.workers r.job.work) (committed a.parameters r.job.work r.outcome) (committed_is a.parameters r.job.work r.outcome) are)
happened a (Changed change) are = posted (newest_only a.parameters) a.outbox (change_message a.parameters change) (change_is a.parameters change) are
happened a (Placed sub pid bytes) are = are
happened a (Noted entry) are = noted a.parameters a.outbox entry are
happened a (Restored image) are = are
happened a Dropped are = dropped_one a.outbox are

all_happened : (a : Account) (es : List Event) → AreResponses a.outbox → AreResponses (fold account_after a es).outbox
all_happened a [] are = are
all_happened a (e ∷ es) are = all_happened (account_after a e) es (happened a e are)

pub messages_are_responses : (h : History) → AreResponses (outbox_of h)
unfolding account_of
messages_are_responses h = all_happened (account_before h.setup) h.events (record { arrived = tt; answers = tt })
