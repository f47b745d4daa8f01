-- The report of a job, and what it makes of an account.
use Rattle.std.proofs.Common.{◌≡◌, ℕ, ◌<◌, Bool, true, false, cond, List, [], ◌∷◌, length, Option, Some, None, refl, sym, ap, subst, ◌∙◌, arith}
use Rattle.std.specs.Prelude.{IsSome, slice_get, nat_lt}
use Rattle.rdm_frame.specs.declared.message.Message.{Message}
use Rattle.rdm_frame.specs.declared.status.Entry.{Entry as StatusEntry}
use Rattle.rdm_commands.specs.declared.jobs.outcome.Outcome.{Outcome}
use Rattle.rdm_commands.specs.declared.jobs.outcome.Outcome.TheVariants.{Done, Reading, Failed}
use Rattle.rdm_commands.specs.declared.jobs.work.Work.{Work}
use Rattle.rdm_params.specs.Device.Parameters.{Parameters}
use Rattle.rdm_params.specs.Jobs.Commit.{after_commit, committed}
use Rattle.rdm_params.specs.Jobs.Outcome.{fits}
use Rattle.rdm_params.specs.Jobs.Thresholds.{notes}
use Rattle.rdm_params.specs.Jobs.Work.{worker_at}
use Rattle.rdm_outbox.specs.declared.job.Job.{Job}
use Rattle.rdm_outbox.specs.Account as outbox
use Rattle.rdm_outbox.specs.Jobs.{outstanding_of, after_arrive}
use Rattle.rdm_outbox.specs.Shows as outbox_state
use Rattle.rdm_outbox.specs.Statuses.{can_note}
use Rattle.rdm_responder.specs.declared.report.Report.{Report}
use Rattle.rdm_responder.specs.declared.report.Arrival.{Arrival}
use Rattle.rdm_responder.specs.History.{Arrived, History, then_event}
use Rattle.rdm_responder.specs.Lawful.{MayArrive}
use Rattle.rdm_responder.specs.Rules.{Account, account_of, account_after_report, after_outcome}
use Rattle.rdm_responder.specs.Runs.{IsArrival, outbox_of}
use Rattle.rdm_responder.specs.StandsFor.{State, Shows}
use Rattle.rdm_responder.proofs.Accounts.{account_of-then}

-- ---- which report may arrive

abbrev some : Job → Option Job
some j = Some j

some_is : (i j : Job) → some i ≡ some j → i ≡ j
some_is i j e = cc

no_job : (j : Job) → None ≡ some j → ⊥
no_job j e = cc

abbrev none_found : Option ℕ
none_found = None

some_number : (m n : ℕ) → Some m ≡ Some n → m ≡ n
some_number m n e = cc

none_is_no_worker : IsSome none_found → ⊥
none_is_no_worker e = cc

pub no_worker : (found : Option ℕ) → found ≡ None → IsSome found → ⊥
no_worker found e some = none_is_no_worker (subst (λ (o : Option ℕ). IsSome o) e some)

-- the worker that was found where the outcome fits
pub fitting : (w n : ℕ) (fit : Bool) → Some w ≡ cond fit (Some n) None → (w ≡ n) × (fit ≡ true)
fitting w n true e = (some_number w n e, refl)
fitting w n false e = absurd cc

pub oldest_arrives : (a : Account) (r : Report) (w : ℕ) (job : Job) → w ≡ worker_at a.outbox.workers r.job.work → some job ≡ slice_get (outstanding_of a.outbox w) 0 → job ≡ r.job → fits r.job.work r.outcome ≡ true → MayArrive a r
oldest_arrives a r w job e oldest same fit =
    record { oldest = ap (λ (n : ℕ). slice_get (outstanding_of a.outbox n) 0) (sym e) ∙ sym oldest ∙ ap some same; fits = fit }

pub is_oldest : (a : Account) (r : Report) (w : ℕ) (job : Job) → w ≡ worker_at a.outbox.workers r.job.work → some job ≡ slice_get (outstanding_of a.outbox w) 0 → MayArrive a r → job ≡ r.job
is_oldest a r w job e oldest may =
    some_is job r.job (oldest ∙ ap (λ (n : ℕ). slice_get (outstanding_of a.outbox n) 0) e ∙ may.oldest)

pub none_arrives : (a : Account) (r : Report) (w : ℕ) → w ≡ worker_at a.outbox.workers r.job.work → None ≡ slice_get (outstanding_of a.outbox w) 0 → MayArrive a r → ⊥
none_arrives a r w e none may =
    no_job r.job (none ∙ ap (λ (n : ℕ). slice_get (outstanding_of a.outbox n) 0) e ∙ may.oldest)

pub some_outstanding : (jobs : List Job) (job : Job) → slice_get jobs 0 ≡ some job → 0 < length jobs
some_outstanding [] job e = absurd (no_job job e)
some_outstanding (j ∷ js) job e = omega arith

-- ---- what it makes of the account

pub outbox_after_report : (a : Account) (r : Report) (p after : Parameters) (w : ℕ) (m : Message) → p ≡ a.parameters → after ≡ after_commit p r.job.work r.outcome → w ≡ worker_at a.outbox.workers r.job.work → m ≡ committed p r.job.work r.outcome → after_outcome after (after_arrive a.outbox w m) r.job.work r.outcome ≡ (account_after_report a r).outbox
outbox_after_report a r p after w m e ended worker message = rw (worker, message, ended, e) refl

pub shows_report : (old new : State) (a : Account) (r : Report) (w : ℕ) (m : Message) → Shows old a → w ≡ worker_at a.outbox.workers r.job.work → m ≡ committed old.parameters r.job.work r.outcome → new.uid ≡ old.uid → new.parameters ≡ after_commit old.parameters r.job.work r.outcome → new.muted ≡ old.muted → outbox_state.Shows new.outbox (after_outcome new.parameters (after_arrive a.outbox w m) r.job.work r.outcome) → Shows new (account_after_report a r)
shows_report old new a r w m shows worker message uid parameters muted outbox = record {
  uid = uid ∙ shows.uid;
  parameters = parameters ∙ ap (λ (p : Parameters). after_commit p r.job.work r.outcome) shows.parameters;
  muted = muted ∙ shows.muted;
  outbox = subst (outbox_state.Shows new.outbox) (outbox_after_report a r old.parameters new.parameters w m shows.parameters parameters worker message) outbox;
}

noting_keeps : (b : outbox.Account) (noted : List outbox.Noted) (reports room : Bool) → (cond reports (cond room (record b { noted = noted }) b) b).arrived ≡ b.arrived
noting_keeps b noted false room = refl
noting_keeps b noted true true = refl
noting_keeps b noted true false = refl

keeps_arrived : (p : Parameters) (b : outbox.Account) (work : Work) (outcome : Outcome) → (after_outcome p b work outcome).arrived ≡ b.arrived
keeps_arrived p b work Done = refl
keeps_arrived p b work (Reading v) = refl
keeps_arrived p b work (Failed severity id v1 v2) =
    let entry : StatusEntry = record { sub = work.sub; severity = severity; id = id; v1 = v1; v2 = v2 } in
    noting_keeps b _ (notes p entry) (can_note b)

pub is_arrival : (h : History) (r : Report) (arrival : Arrival) (p after : Parameters) (w : ℕ) → MayArrive (account_of h) r → p ≡ (account_of h).parameters → after ≡ after_commit p r.job.work r.outcome → w ≡ worker_at (outbox_of h).workers r.job.work → arrival.message ≡ committed p r.job.work r.outcome → arrival.kept ≡ nat_lt (length (outbox_of h).noted) (length (after_outcome after (after_arrive (outbox_of h) w arrival.message) r.job.work r.outcome).noted) → IsArrival h r arrival
is_arrival h r arrival p after w may e ended worker message kept =
    let a = account_of h in
    let left : after_outcome after (after_arrive a.outbox w arrival.message) r.job.work r.outcome ≡ outbox_of (then_event h (Arrived r)) =
    outbox_after_report a r p after w arrival.message e ended worker message ∙ ap (λ (b : Account). b.outbox) (sym (account_of-then h (Arrived r))) in
    record {
      may = may;
      message = ap (λ (b : outbox.Account). b.arrived) (sym left) ∙ keeps_arrived after (after_arrive a.outbox w arrival.message) r.job.work r.outcome;
      kept = kept ∙ ap (λ (b : outbox.Account). nat_lt (length (outbox_of h).noted) (length b.noted)) left;
    }
