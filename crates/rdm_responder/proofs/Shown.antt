-- Every lawful history has what a state that stands for it needs.
use Rattle.std.proofs.Common.{◌≡◌, ℕ, ◌+◌, ◌<◌, ◌≤◌, ◌==◌, Bool, true, false, cond, List, [], ◌∷◌, ◌++◌, length, Option, Some, None, refl, subst, arith, length-append}
use Rattle.std.specs.Prelude.{nat_lt}
use Rattle.std.specs.List.{fold}
use Rattle.std.proofs.lemmas.Bool.{eqb-true, ltb-true}
use Rattle.rdm_frame.specs.Reading.{frame_in}
use Rattle.rdm_frame.specs.declared.message.Message.{Message}
use Rattle.rdm_frame.specs.declared.status.Entry.{Entry as StatusEntry}
use Rattle.rdm_commands.specs.declared.jobs.ask.Ask.{Ask}
use Rattle.rdm_commands.specs.declared.jobs.outcome.Outcome.{Outcome}
use Rattle.rdm_commands.specs.declared.jobs.outcome.Outcome.TheVariants.{Done, Reading, Failed}
use Rattle.rdm_commands.specs.declared.jobs.work.Work.{Work}
use Rattle.rdm_commands.specs.declared.verdict.Verdict.{Verdict}
use Rattle.rdm_commands.specs.declared.verdict.Verdict.TheVariants.{Reply, Start, Queue, Status, Clear, Refuse}
use Rattle.rdm_params.specs.Commands.Commands.{got, answer_to_set}
use Rattle.rdm_params.specs.Commands.Panel.{change_message}
use Rattle.rdm_params.specs.Device.Parameters.{Parameters}
use Rattle.rdm_params.specs.Jobs.Commit.{committed}
use Rattle.rdm_params.specs.Jobs.Work.{Choice, worker_at}
use Rattle.rdm_outbox.specs.Account as outbox
use Rattle.rdm_outbox.specs.declared.job.Job.{Job}
use Rattle.rdm_outbox.specs.Jobs.{jobs_of, ended_of, has_room, next_job, outstanding_of, waiting_of, after_arrive}
use Rattle.rdm_outbox.specs.Messages.{is_last, last_of, after_next, after_drop}
use Rattle.rdm_outbox.specs.Shows as outbox_shows
use Rattle.rdm_outbox.specs.State as outbox_state
use Rattle.rdm_outbox.specs.Statuses.{can_note, unshown}
use Rattle.rdm_outbox.proofs.Newest.{gone_newest}
use Rattle.rdm_outbox.proofs.Outboxes.{ended_sum, within_more}
use Rattle.rdm_responder.specs.History.{Event, Heard, Arrived, Changed, Placed, Noted, Restored, Dropped}
use Rattle.rdm_responder.specs.Lawful.{MayHappen, AreLawful}
use Rattle.rdm_responder.specs.Laws.{CanBeShown, LawfulHistoriesCanBeShown, LawfulHistoriesHaveOneState}
use Rattle.rdm_responder.specs.Requests.{Request, Ignored, Branch, Muting, Get, Set, request_in}
use Rattle.rdm_responder.specs.Rules.{Account, account_of, account_before, account_after, account_with, newest_only, after_message, after_entry, after_outcome, is_muted, outbox_after}
use Rattle.rdm_responder.specs.StandsFor.{State, Shows}
use Rattle.rdm_responder.proofs.Arrivals.{some_outstanding}

-- no worker has ended more jobs than it was given, and no more messages have left the queue than arrived
pub record IsWithin (b : outbox.Account) : Type 0 where
  pub ended : (w : ℕ) → ended_of w b.ended ≤ length (jobs_of b.workers w b.accepted)
  pub given : b.gone ≤ length b.arrived

pub either : (P : outbox.Account → Type 0) (c : Bool) (x y : outbox.Account) → P x → P y → P (cond c x y)
either P true x y one two = one
either P false x y one two = two

-- ---- a command

more_if : (c : Bool) (x : Job) (js ks : List Job) → length js ≤ length ks → length (cond c (x ∷ js) js) ≤ length (cond c (x ∷ ks) ks)
more_if true x js ks less = omega (arith, less)
more_if false x js ks less = less

more_jobs : (ws : Choice) (w : ℕ) (js : List Job) (j : Job) → length (jobs_of ws w js) ≤ length (jobs_of ws w (js ++ j ∷ []))
more_jobs ws w [] j = omega arith
more_jobs ws w (x ∷ js) j = more_if (worker_at ws x.work == w) x (jobs_of ws w js) (jobs_of ws w (js ++ j ∷ [])) (more_jobs ws w js j)

accepts : (b : outbox.Account) (j : Job) → IsWithin b → IsWithin (record b { accepted = b.accepted ++ j ∷ [] })
accepts b j is = record { ended = λ w. omega (arith, is.ended w, more_jobs b.workers w b.accepted j); given = is.given }

if_waits : (b x y : outbox.Account) (c : Bool) → nat_lt b.gone (length b.arrived) ≡ c → (b.gone < length b.arrived → IsWithin x) → IsWithin y → IsWithin (cond c x y)
if_waits b x y true e one two = one (ltb-true b.gone (length b.arrived) e)
if_waits b x y false e one two = two

after_the_next : (b : outbox.Account) (ask : Ask) → IsWithin b → IsWithin (after_next b ask)
after_the_next b ask is =
    if_waits b _ _ (nat_lt b.gone (length b.arrived)) refl
    (λ some. record { ended = is.ended; given = omega (arith, some) }) (record { ended = is.ended; given = is.given })

after_dropping : (b : outbox.Account) → IsWithin b → IsWithin (after_drop b)
after_dropping b is =
    if_waits b _ _ (nat_lt b.gone (length b.arrived)) refl (λ some. record { ended = is.ended; given = omega (arith, some) }) is

after_verdict : (b : outbox.Account) (v : Verdict) → IsWithin b → IsWithin (outbox_after b v)
after_verdict b (Reply bytes) is = is
after_verdict b (Start work) is = either IsWithin (has_room b work) _ b (accepts b (next_job b work) is) is
after_verdict b (Queue ask) is = either IsWithin (is_last ask) b (after_next b ask) is (after_the_next b ask is)
after_verdict b (Status ask) is = either IsWithin (is_last ask) b _ is (record { ended = is.ended; given = is.given })
after_verdict b Clear is = record { ended = is.ended; given = is.given }
after_verdict b (Refuse nack) is = is

after_request : (a : Account) (r : Request) → IsWithin a.outbox → IsWithin (account_with a r).outbox
after_request a Ignored is = is
after_request a (Branch lower upper) is = is
after_request a (Muting muted f) is = is
after_request a (Get f) is = after_verdict a.outbox (got a.parameters f.sub f.pid f.body) is
after_request a (Set f) is = after_verdict a.outbox (answer_to_set a.parameters f.sub f.pid f.body) is

-- ---- a report

ends_at : (b : outbox.Account) (worker w : ℕ) (here : Bool) → (worker == w) ≡ here → ended_of w b.ended ≤ length (jobs_of b.workers w b.accepted) → 0 < length (outstanding_of b worker) → ended_of w b.ended + cond here 1 0 ≤ length (jobs_of b.workers w b.accepted)
ends_at b worker w true e few some =
    subst (λ (k : ℕ). ended_of k b.ended + 1 ≤ length (jobs_of b.workers k b.accepted)) (eqb-true worker w e) (within_more (ended_of worker b.ended) (jobs_of b.workers worker b.accepted) some)
ends_at b worker w false e few some = omega (arith, few)

pub ended_one : (worker w : ℕ) (ws : List ℕ) → ended_of w (ws ++ worker ∷ []) ≡ ended_of w ws + cond (worker == w) 1 0
ended_one worker w ws = omega (arith, ended_sum w worker ws)

arrives : (b : outbox.Account) (worker : ℕ) (m : Message) → 0 < length (outstanding_of b worker) → IsWithin b → IsWithin (after_arrive b worker m)
arrives b worker m some is = record {
  ended = λ w. omega (arith, ended_one worker w b.ended, ends_at b worker w (worker == w) refl (is.ended w) some);
  given = omega (arith, is.given, length-append b.arrived (m ∷ []));
}

after_the_entry : (p : Parameters) (b : outbox.Account) (entry : StatusEntry) → IsWithin b → IsWithin (after_entry p b entry)
after_the_entry p b entry is =
    either IsWithin _ _ b (either IsWithin (can_note b) _ b (record { ended = is.ended; given = is.given }) is) is

after_the_outcome : (p : Parameters) (b : outbox.Account) (work : Work) (outcome : Outcome) → IsWithin b → IsWithin (after_outcome p b work outcome)
after_the_outcome p b work Done is = is
after_the_outcome p b work (Reading v) is = is
after_the_outcome p b work (Failed severity id v1 v2) is = after_the_entry p b _ is

-- ---- an event, and a history

after_posting : (newest : Bool) (b : outbox.Account) (message : Option Message) → IsWithin b → IsWithin (after_message newest b message)
after_posting newest b None is = is
after_posting true b (Some m) is = record { ended = is.ended; given = gone_newest b m is.given }
after_posting false b (Some m) is = record { ended = is.ended; given = omega (arith, is.given, length-append b.arrived (m ∷ [])) }

pub after_event : (a : Account) (e : Event) → MayHappen a e → IsWithin a.outbox → IsWithin (account_after a e).outbox
after_event a (Heard bytes) may is = after_request a (request_in a.setup.uid (frame_in bytes)) is
after_event a (Arrived r) may is =
    after_the_outcome _ _ r.job.work r.outcome
    (arrives a.outbox (worker_at a.outbox.workers r.job.work) (committed a.parameters r.job.work r.outcome) (some_outstanding (outstanding_of a.outbox (worker_at a.outbox.workers r.job.work)) r.job may.oldest) is)
after_event a (Changed change) may is = after_posting (newest_only a.parameters) a.outbox (change_message a.parameters change) is
after_event a (Placed sub pid bytes) may is = is
after_event a (Noted entry) may is = after_the_entry a.parameters a.outbox entry is
after_event a (Restored image) may is = is
after_event a Dropped may is = after_dropping a.outbox is

after_events : (a : Account) (es : List Event) → AreLawful a es → IsWithin a.outbox → IsWithin (fold account_after a es).outbox
after_events a [] lawful is = is
after_events a (e ∷ es) lawful is = after_events (account_after a e) es lawful.1 (after_event a e lawful.0 is)

pub lawful_histories_can_be_shown : LawfulHistoriesCanBeShown
unfolding account_of
lawful_histories_can_be_shown h lawful =
    let is : IsWithin (fold account_after (account_before h.setup) h.events).outbox = after_events (account_before h.setup) h.events lawful (record { ended = λ w. omega arith; given = omega arith }) in
    record { first_ended = is.ended 0; second_ended = is.ended 1; within = is.given }

-- the state that an account of jobs and messages comes to, and that of a responder
abbrev outbox_at : outbox.Account → outbox_state.State
outbox_at b = record {
  q = b.q;
  jobs = b.jobs;
  entries = b.entries;
  first_job = b.first_job;
  workers = b.workers;
  first = outstanding_of b 0;
  second = outstanding_of b 1;
  first_given = length (jobs_of b.workers 0 b.accepted);
  second_given = length (jobs_of b.workers 1 b.accepted);
  queue = waiting_of b;
  unshown = unshown b.noted;
  last = last_of b;
}

abbrev state_at : Account → State
state_at a = record { uid = a.setup.uid; parameters = a.parameters; muted = is_muted a.mutings; outbox = outbox_at a.outbox }

stands : (a : Account) → CanBeShown a.outbox → Shows (state_at a) a
stands a can = record {
  uid = refl;
  parameters = refl;
  muted = refl;
  outbox = record {
    q = refl;
    jobs = refl;
    entries = refl;
    first_job = refl;
    workers = refl;
    first = refl;
    second = refl;
    first_given = refl;
    second_given = refl;
    first_ended = can.first_ended;
    second_ended = can.second_ended;
    queue = refl;
    within = can.within;
    unshown = refl;
    last = refl;
  };
}

-- each field of a state that shows the account is the one of that state
same_outbox : (s : outbox_state.State) (b : outbox.Account) → outbox_shows.Shows s b → s ≡ outbox_at b
same_outbox s b is = λ i. record {
  q = is.q i;
  jobs = is.jobs i;
  entries = is.entries i;
  first_job = is.first_job i;
  workers = is.workers i;
  first = is.first i;
  second = is.second i;
  first_given = is.first_given i;
  second_given = is.second_given i;
  queue = is.queue i;
  unshown = is.unshown i;
  last = is.last i;
}

same_state : (s : State) (a : Account) → Shows s a → s ≡ state_at a
same_state s a is = λ i. record { uid = is.uid i; parameters = is.parameters i; muted = is.muted i; outbox = same_outbox s.outbox a.outbox is.outbox i }

pub lawful_histories_have_one_state : LawfulHistoriesHaveOneState
lawful_histories_have_one_state h lawful =
    (state_at (account_of h), stands (account_of h) (lawful_histories_can_be_shown h lawful), λ other is. same_state other (account_of h) is)
