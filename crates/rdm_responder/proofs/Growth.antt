-- What an event makes of the account of jobs: the job that it starts is accepted, and a job of the worker whose report arrives
-- has ended.
use Rattle.std.proofs.Common.{◌≡◌, ℕ, ◌+◌, Bool, true, false, cond, List, [], ◌∷◌, ◌++◌, length, Option, Some, None, refl, sym, ap, subst, ◌∙◌, append_assoc, append-nil}
use Rattle.std.specs.Prelude.{nat_lt, Ok, Err}
use Rattle.std.specs.Option.{option_to_list}
use Rattle.std.specs.Result.{result_ok}
use Rattle.rdm_frame.specs.Reading.{frame_in}
use Rattle.rdm_frame.specs.declared.message.Message.{Message}
use Rattle.rdm_frame.specs.declared.status.Entry.{Entry as StatusEntry}
use Rattle.rdm_commands.specs.declared.jobs.ask.Ask.{Ask}
use Rattle.rdm_commands.specs.declared.jobs.outcome.Outcome.{Outcome}
use Rattle.rdm_commands.specs.declared.jobs.outcome.Outcome.TheVariants.{Done, Reading, Failed}
use Rattle.rdm_commands.specs.declared.jobs.work.Work.{Work}
use Rattle.rdm_commands.specs.declared.verdict.Verdict.{Verdict}
use Rattle.rdm_commands.specs.declared.verdict.Verdict.TheVariants as verdict
use Rattle.rdm_params.specs.Commands.Commands.{got, answer_to_set}
use Rattle.rdm_params.specs.Commands.Panel.{change_message}
use Rattle.rdm_params.specs.Device.Parameters.{Parameters}
use Rattle.rdm_params.specs.Jobs.Work.{worker_at}
use Rattle.rdm_outbox.specs.declared.job.Job.{Job}
use Rattle.rdm_outbox.specs.declared.job.Full.TheVariants.{NoRoom}
use Rattle.rdm_outbox.specs.Account as outbox
use Rattle.rdm_outbox.specs.Jobs.{next_job, has_room, after_arrive}
use Rattle.rdm_outbox.specs.Messages.{is_last, next_of, after_next, after_post, after_post_newest, after_drop}
use Rattle.rdm_outbox.specs.Statuses.{after_clear, can_note, after_status_now}
use Rattle.rdm_responder.specs.History.{History, Event, Heard, Arrived, Changed, Placed, Noted, Restored, Dropped, then_event}
use Rattle.rdm_responder.specs.Requests.{Request, Ignored, Branch, Muting, Get, Set, request_in}
use Rattle.rdm_responder.specs.Rules.{Account, account_of, account_after, account_with, job_with, outbox_after, started_by, newest_only, after_message, after_entry, after_outcome}
use Rattle.rdm_responder.specs.Runs.{outbox_of}
use Rattle.rdm_responder.proofs.Accounts.{account_of-then}

-- From one account to another, of one choice of workers, these jobs were accepted, and a job of each of these workers ended.
pub record Grows (a b : outbox.Account) (jobs : List Job) (ends : List ℕ) : Type 0 where
  pub accepted : b.accepted ≡ a.accepted ++ jobs
  pub ended : b.ended ≡ a.ended ++ ends
  pub most : b.jobs ≡ a.jobs
  pub first_job : b.first_job ≡ a.first_job
  pub workers : b.workers ≡ a.workers

stays : (a b : outbox.Account) → b.accepted ≡ a.accepted → b.ended ≡ a.ended → b.jobs ≡ a.jobs → b.first_job ≡ a.first_job → b.workers ≡ a.workers → Grows a b [] []
stays a b e1 e2 e3 e4 e5 = record { accepted = e1 ∙ sym (append-nil a.accepted); ended = e2 ∙ sym (append-nil a.ended); most = e3; first_job = e4; workers = e5 }

pub still : (a : outbox.Account) → Grows a a [] []
still a = stays a a refl refl refl refl refl

pub and_then : (a b c : outbox.Account) (js ks : List Job) (ws vs : List ℕ) → Grows a b js ws → Grows b c ks vs → Grows a c (js ++ ks) (ws ++ vs)
and_then a b c js ks ws vs one two = record {
  accepted = two.accepted ∙ ap (λ (l : List Job). l ++ ks) one.accepted ∙ append_assoc a.accepted js ks;
  ended = two.ended ∙ ap (λ (l : List ℕ). l ++ vs) one.ended ∙ append_assoc a.ended ws vs;
  most = two.most ∙ one.most;
  first_job = two.first_job ∙ one.first_job;
  workers = two.workers ∙ one.workers;
}

-- ---- a request

either : (a b c : outbox.Account) (yes? : Bool) → Grows a b [] [] → Grows a c [] [] → Grows a (cond yes? b c) [] []
either a b c true one other = one
either a b c false one other = other

reserves : (b : outbox.Account) (j : Job) (room : Bool) → Grows b (cond room (record b { accepted = b.accepted ++ j ∷ [] }) b) (option_to_list (result_ok (cond room (Ok j) (Err NoRoom)))) []
reserves b j true = record { accepted = refl; ended = sym (append-nil b.ended); most = refl; first_job = refl; workers = refl }
reserves b j false = still b

shows_statuses : (b : outbox.Account) (ask : Ask) → Grows b (after_status_now b ask) [] []
shows_statuses b ask = stays b (after_status_now b ask) refl refl refl refl refl

gives_next : (b : outbox.Account) (ask : Ask) → Grows b (after_next b ask) [] []
gives_next b ask =
    let next : outbox.Account = record b { gone = b.gone + 1; answers = b.answers ++ next_of b ask ∷ [] } in
    either b next (after_status_now b ask) (nat_lt b.gone (length b.arrived)) (stays b next refl refl refl refl refl) (shows_statuses b ask)

pub dropped_one : (b : outbox.Account) → Grows b (after_drop b) [] []
dropped_one b =
    let fewer : outbox.Account = record b { gone = b.gone + 1 } in
    either b fewer b (nat_lt b.gone (length b.arrived)) (stays b fewer refl refl refl refl refl) (still b)

carries_out : (b : outbox.Account) (v : Verdict) → Grows b (outbox_after b v) (option_to_list (started_by b v)) []
carries_out b (verdict.Start work) = reserves b (next_job b work) (has_room b work)
carries_out b (verdict.Queue ask) = either b b (after_next b ask) (is_last ask) (still b) (gives_next b ask)
carries_out b (verdict.Status ask) = either b b (after_status_now b ask) (is_last ask) (still b) (shows_statuses b ask)
carries_out b (verdict.Reply bytes) = still b
carries_out b verdict.Clear = stays b (after_clear b) refl refl refl refl refl
carries_out b (verdict.Refuse nack) = still b

requested : (a : Account) (q : Request) → Grows a.outbox (account_with a q).outbox (option_to_list (job_with a q)) []
requested a Ignored = still a.outbox
requested a (Branch lower upper) = still a.outbox
requested a (Muting muted f) = still a.outbox
requested a (Get f) = carries_out a.outbox (got a.parameters f.sub f.pid f.body)
requested a (Set f) = carries_out a.outbox (answer_to_set a.parameters f.sub f.pid f.body)

-- ---- a report

notes : (b c : outbox.Account) (r? : Bool) → c.accepted ≡ b.accepted → c.ended ≡ b.ended → c.jobs ≡ b.jobs → c.first_job ≡ b.first_job → c.workers ≡ b.workers → Grows b (cond r? c b) [] []
notes b c true e1 e2 e3 e4 e5 = stays b c e1 e2 e3 e4 e5
notes b c false e1 e2 e3 e4 e5 = still b

pub noted_entry : (p : Parameters) (b : outbox.Account) (entry : StatusEntry) → Grows b (after_entry p b entry) [] []
noted_entry p b entry = either b _ b _ (notes b _ (can_note b) refl refl refl refl refl) (still b)

ends : (p : Parameters) (b : outbox.Account) (work : Work) (outcome : Outcome) → Grows b (after_outcome p b work outcome) [] []
ends p b work Done = still b
ends p b work (Reading v) = still b
ends p b work (Failed severity id v1 v2) = noted_entry p b _

reported : (b : outbox.Account) (worker : ℕ) (m : Message) → Grows b (after_arrive b worker m) [] (worker ∷ [])
reported b worker m = record { accepted = sym (append-nil b.accepted); ended = refl; most = refl; first_job = refl; workers = refl }

-- ---- a change at the device's menu

posted : (newest : Bool) (b : outbox.Account) (message : Option Message) → Grows b (after_message newest b message) [] []
posted newest b None = still b
posted true b (Some m) = stays b (after_post_newest b m) refl refl refl refl refl
posted false b (Some m) = stays b (after_post b m) refl refl refl refl refl

-- ---- an event of a history

-- the job that it starts, and the workers of whom a job ends by it
abbrev pub job_at : Account → Event → Option Job
job_at a (Heard bytes) = job_with a (request_in a.setup.uid (frame_in bytes))
job_at a (Arrived r) = None
job_at a (Changed change) = None
job_at a (Placed sub pid bytes) = None
job_at a (Noted entry) = None
job_at a (Restored image) = None
job_at a Dropped = None

abbrev pub workers_at : Account → Event → List ℕ
workers_at a (Heard bytes) = []
workers_at a (Arrived r) = worker_at a.outbox.workers r.job.work ∷ []
workers_at a (Changed change) = []
workers_at a (Placed sub pid bytes) = []
workers_at a (Noted entry) = []
workers_at a (Restored image) = []
workers_at a Dropped = []

pub event_grows : (a : Account) (e : Event) → Grows a.outbox (account_after a e).outbox (option_to_list (job_at a e)) (workers_at a e)
event_grows a (Heard bytes) = requested a (request_in a.setup.uid (frame_in bytes))
event_grows a (Arrived r) = and_then a.outbox _ _ [] [] (worker_at a.outbox.workers r.job.work ∷ []) [] (reported a.outbox (worker_at a.outbox.workers r.job.work) _) (ends _ _ r.job.work r.outcome)
event_grows a (Changed change) = posted (newest_only a.parameters) a.outbox (change_message a.parameters change)
event_grows a (Placed sub pid bytes) = still a.outbox
event_grows a (Noted entry) = noted_entry a.parameters a.outbox entry
event_grows a (Restored image) = still a.outbox
event_grows a Dropped = dropped_one a.outbox

pub grows : (h : History) (e : Event) → Grows (outbox_of h) (outbox_of (then_event h e)) (option_to_list (job_at (account_of h) e)) (workers_at (account_of h) e)
grows h e =
    subst (λ (a : Account). Grows (outbox_of h) a.outbox (option_to_list (job_at (account_of h) e)) (workers_at (account_of h) e)) (sym (account_of-then h e))
    (event_grows (account_of h) e)
