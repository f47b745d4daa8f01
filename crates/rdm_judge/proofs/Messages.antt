-- What becomes of the messages of a fixture: the last one, and how many wait.
use Rattle.std.proofs.Common.{◌≡◌, ℕ, ◌+◌, ◌-◌, ◌≤◌, Bool, true, false, cond, List, [], ◌∷◌, ◌++◌, length, Option, Some, None, refl, sym, ap, subst, ◌∙◌, arith, length-append}
use Rattle.std.specs.Prelude.{unwrap_or, nat_lt}
use Rattle.std.proofs.lemmas.Bool.{cond-true, cond-false, ltb-false}
use Rattle.std.proofs.lemmas.List.{length-drop}
use Rattle.std.proofs.lemmas.Option.{slice_get_past}
use Rattle.rdm_frame.specs.declared.message.Message.{Message}
use Rattle.rdm_frame.specs.declared.status.Entry.{Entry as StatusEntry}
use Rattle.rdm_commands.specs.declared.jobs.ask.Ask.{Ask}
use Rattle.rdm_commands.specs.declared.jobs.outcome.Outcome.{Outcome}
use Rattle.rdm_commands.specs.declared.jobs.outcome.Outcome.TheVariants.{Done, Reading, Failed}
use Rattle.rdm_commands.specs.declared.jobs.work.Work.{Work}
use Rattle.rdm_commands.specs.declared.verdict.Verdict.{Verdict as Answer}
use Rattle.rdm_commands.specs.declared.verdict.Verdict.TheVariants.{Reply, Start, Queue, Status, Clear, Refuse}
use Rattle.rdm_params.specs.Commands.Panel.{change_message}
use Rattle.rdm_params.specs.Device.Parameters.{Parameters}
use Rattle.rdm_params.specs.Jobs.Commit.{after_commit, committed}
use Rattle.rdm_params.specs.Jobs.Thresholds.{notes}
use Rattle.rdm_params.specs.Jobs.Work.{worker_at}
use Rattle.rdm_outbox.specs.Account as outbox
use Rattle.rdm_outbox.specs.declared.job.Job.{Job}
use Rattle.rdm_outbox.specs.Jobs.{after_arrive, has_room, next_job, waiting_of}
use Rattle.rdm_outbox.specs.Messages.{after_dispense, after_next, after_status, dispensed, is_last, last_of, last_or, next_of, status_dispensed}
use Rattle.rdm_outbox.specs.Statuses.{can_note, status_message, status_now}
use Rattle.rdm_outbox.proofs.Newest.{all_newest}
use Rattle.rdm_responder.specs.History.{Event, Heard, Arrived, Changed, Placed, Noted, Restored, Dropped}
use Rattle.rdm_responder.specs.Rules.{Account, account_after, after_entry, after_message, after_outcome, newest_only, outbox_after}
use Rattle.rdm_judge.specs.Seen.{is_unseen}

-- No message was given or answered, and no fewer arrived.
pub record Later (b c : outbox.Account) : Type 0 where
  pub given : c.gone ≡ b.gone
  pub answers : c.answers ≡ b.answers
  pub arrived : length b.arrived ≤ length c.arrived

itself : (b : outbox.Account) → Later b b
itself b = record { given = refl; answers = refl; arrived = omega arith }

then_later : (b c d : outbox.Account) → Later b c → Later c d → Later b d
then_later b c d first second = record { given = second.given ∙ first.given; answers = second.answers ∙ first.answers; arrived = omega arith }

pub same_last : (b c : outbox.Account) → Later b c → last_of c ≡ last_of b
same_last b c later = ap (λ (ms : List Message). last_or (status_message []) ms) later.answers

pub no_fewer : (b c : outbox.Account) → Later b c → length (waiting_of b) ≤ length (waiting_of c)
no_fewer b c later = omega (arith, length-drop b.gone b.arrived, length-drop c.gone c.arrived)

-- ---- events that no capture shows

noted : (b c : outbox.Account) (first second : Bool) → Later b c → Later b (cond first (cond second c b) b)
noted b c true true later = later
noted b c true false later = itself b
noted b c false second later = itself b

entry_later : (p : Parameters) (b : outbox.Account) (entry : StatusEntry) → Later b (after_entry p b entry)
entry_later p b entry = noted b _ (notes p entry) (can_note b) (record { given = refl; answers = refl; arrived = omega arith })

outcome_later : (p : Parameters) (b : outbox.Account) (work : Work) (outcome : Outcome) → Later b (after_outcome p b work outcome)
outcome_later p b work Done = itself b
outcome_later p b work (Reading value) = itself b
outcome_later p b work (Failed severity id v1 v2) = entry_later p b (record { sub = work.sub; severity = severity; id = id; v1 = v1; v2 = v2 })

one_more : (m : Message) (ms : List Message) → length ms ≤ length (ms ++ m ∷ [])
one_more m ms = omega (arith, length-append ms (m ∷ []))

message_later : (newest : Bool) (b : outbox.Account) (message : Option Message) → Later b (after_message newest b message)
message_later newest b None = itself b
message_later true b (Some m) = record { given = refl; answers = refl; arrived = all_newest b m }
message_later false b (Some m) = record { given = refl; answers = refl; arrived = one_more m b.arrived }

arrive_later : (b : outbox.Account) (worker : ℕ) (m : Message) → Later b (after_arrive b worker m)
arrive_later b worker m = record { given = refl; answers = refl; arrived = one_more m b.arrived }

pub unseen_later : (a : Account) (e : Event) → is_unseen e ≡ true → Later a.outbox (account_after a e).outbox × ((account_after a e).mutings ≡ a.mutings)
unseen_later a (Heard bytes) e = absurd cc
unseen_later a (Arrived r) e =
    let b : outbox.Account = after_arrive a.outbox (worker_at a.outbox.workers r.job.work) (committed a.parameters r.job.work r.outcome) in
    let p : Parameters = after_commit a.parameters r.job.work r.outcome in
    (then_later a.outbox b (after_outcome p b r.job.work r.outcome) (arrive_later a.outbox _ _) (outcome_later p b r.job.work r.outcome), refl)
unseen_later a (Changed change) e = (message_later (newest_only a.parameters) a.outbox (change_message a.parameters change), refl)
unseen_later a (Placed sub pid bytes) e = (itself a.outbox, refl)
unseen_later a (Noted entry) e = (entry_later a.parameters a.outbox entry, refl)
unseen_later a (Restored image) e = (itself a.outbox, refl)
unseen_later a Dropped e = absurd (cc)

-- ---- commands

-- a verdict that gives no message
abbrev pub GivesNone : Answer → Type 0
GivesNone v = ((ask : Ask) → v ≡ Queue ask → ⊥) × ((ask : Ask) → v ≡ Status ask → ⊥)

started : (b : outbox.Account) (jobs : List Job) (room : Bool) → Later b (cond room (record b { accepted = jobs }) b)
started b jobs true = record { given = refl; answers = refl; arrived = omega arith }
started b jobs false = itself b

pub gives_none : (b : outbox.Account) (v : Answer) → GivesNone v → Later b (outbox_after b v)
gives_none b (Reply bytes) none = itself b
gives_none b (Start work) none = started b (b.accepted ++ next_job b work ∷ []) (has_room b work)
gives_none b (Queue ask) none = absurd (none.0 ask refl)
gives_none b (Status ask) none = absurd (none.1 ask refl)
gives_none b Clear none = record { given = refl; answers = refl; arrived = omega arith }
gives_none b (Refuse nack) none = itself b

last_or_push : (m x : Message) (xs : List Message) → last_or m (xs ++ x ∷ []) ≡ x
last_or_push m x [] = refl
last_or_push m x (y ∷ xs) = last_or_push y x xs

next_is_last : (b : outbox.Account) (ask : Ask) (more : Bool) → nat_lt b.gone (length b.arrived) ≡ more → last_of (after_next b ask) ≡ next_of b ask
next_is_last b ask true e = ap last_of (cond-true _ _ _ e) ∙ last_or_push (status_message []) (next_of b ask) b.answers
next_is_last b ask false e =
    let past : length b.arrived ≤ b.gone = ltb-false _ _ e in
    ap last_of (cond-false _ _ _ e) ∙ last_or_push (status_message []) (status_now b ask) b.answers
    ∙ sym (ap (λ (o : Option Message). unwrap_or o (status_now b ask)) (slice_get_past b.arrived b.gone past))

dispensed_at : (b : outbox.Account) (ask : Ask) (again : Bool) → is_last ask ≡ again → last_of (after_dispense b ask) ≡ dispensed b ask
dispensed_at b ask true e = rw e refl
dispensed_at b ask false e = rw e (next_is_last b ask (nat_lt b.gone (length b.arrived)) refl)

-- what QUEUED_MESSAGE gave is the last message
pub dispensed_is_last : (b : outbox.Account) (ask : Ask) → last_of (after_dispense b ask) ≡ dispensed b ask
dispensed_is_last b ask = dispensed_at b ask (is_last ask) refl

status_at : (b : outbox.Account) (ask : Ask) (again : Bool) → is_last ask ≡ again → last_of (after_status b ask) ≡ status_dispensed b ask
status_at b ask true e = rw e refl
status_at b ask false e = rw e (last_or_push (status_message []) (status_now b ask) b.answers)

-- so is what STATUS_MESSAGES gave
pub status_is_last : (b : outbox.Account) (ask : Ask) → last_of (after_status b ask) ≡ status_dispensed b ask
status_is_last b ask = status_at b ask (is_last ask) refl

-- ---- how many wait

next_fewer : (b : outbox.Account) (ask : Ask) (more : Bool) → nat_lt b.gone (length b.arrived) ≡ more → length (waiting_of b) - 1 ≤ length (waiting_of (after_next b ask))
next_fewer b ask true e =
    subst (λ (c : outbox.Account). length (waiting_of b) - 1 ≤ length (waiting_of c)) (sym (cond-true _ _ _ e)) (omega (arith, length-drop b.gone b.arrived, length-drop (b.gone + 1) b.arrived))
next_fewer b ask false e =
    subst (λ (c : outbox.Account). length (waiting_of b) - 1 ≤ length (waiting_of c)) (sym (cond-false _ _ _ e)) (omega arith)

dispense_fewer : (b : outbox.Account) (ask : Ask) (again : Bool) → is_last ask ≡ again → length (waiting_of b) - 1 ≤ length (waiting_of (after_dispense b ask))
dispense_fewer b ask true e = rw e (omega arith)
dispense_fewer b ask false e = rw e (next_fewer b ask (nat_lt b.gone (length b.arrived)) refl)

pub status_waits : (b : outbox.Account) (ask : Ask) (again : Bool) → is_last ask ≡ again → length (waiting_of b) ≤ length (waiting_of (outbox_after b (Status ask)))
status_waits b ask true e = rw e (omega arith)
status_waits b ask false e = rw e (omega arith)

pub queue_not : (b : outbox.Account) (v : Answer) → ((ask : Ask) → v ≡ Queue ask → ⊥) → length (waiting_of b) ≤ length (waiting_of (outbox_after b v))
queue_not b (Queue ask) none = absurd (none ask refl)
queue_not b (Status ask) none = status_waits b ask (is_last ask) refl
queue_not b (Reply bytes) none = omega arith
queue_not b (Start work) none = no_fewer b (outbox_after b (Start work)) (started b (b.accepted ++ next_job b work ∷ []) (has_room b work))
queue_not b Clear none = omega arith
queue_not b (Refuse nack) none = omega arith

pub fewer_by_one : (b : outbox.Account) (v : Answer) → length (waiting_of b) - 1 ≤ length (waiting_of (outbox_after b v))
fewer_by_one b (Queue ask) = dispense_fewer b ask (is_last ask) refl
fewer_by_one b (Status ask) = let same = status_waits b ask (is_last ask) refl in omega (arith, same)
fewer_by_one b (Reply bytes) = omega arith
fewer_by_one b (Start work) = let same = no_fewer b (outbox_after b (Start work)) (started b (b.accepted ++ next_job b work ∷ []) (has_room b work)) in omega (arith, same)
fewer_by_one b Clear = omega arith
fewer_by_one b (Refuse nack) = omega arith
