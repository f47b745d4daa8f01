-- What a run of the bus makes of the account of jobs: the jobs that its events start are accepted, and as many of each
-- worker have ended as reports on them have arrived.
use Rattle.std.proofs.Common.{◌≡◌, ℕ, zero, suc, ◌<◌, Bool, true, false, cond, List, [], ◌∷◌, ◌++◌, length, drop, Option, Some, None, refl, sym, ap, subst, ◌∙◌}
use Rattle.std.specs.Prelude.{filter, slice_get, Ok, Err}
use Rattle.std.specs.Option.{option_and_then, option_to_list}
use Rattle.std.specs.Result.{result_ok}
use Rattle.std.proofs.lemmas.Bool.{and_parts, ltb-true}
use Rattle.rdm_frame.specs.FrameText.{frame_text}
use Rattle.rdm_frame.specs.Reading.{frame_in}
use Rattle.rdm_frame.specs.Faults.{request_heard}
use Rattle.rdm_commands.specs.declared.jobs.work.Work.{Work}
use Rattle.rdm_commands.specs.declared.verdict.Verdict.{Verdict}
use Rattle.rdm_commands.specs.declared.verdict.Verdict.TheVariants as verdict
use Rattle.rdm_params.specs.Table.Rows.{command_of}
use Rattle.rdm_params.specs.Jobs.Laws.{GetStartsItsWork, SetStartsItsWork}
use Rattle.rdm_params.specs.Jobs.Work.{Choice, worker_at}
use Rattle.rdm_params.specs.Table.Uses.{is_slow}
use Rattle.rdm_outbox.specs.declared.job.Job.{Job}
use Rattle.rdm_outbox.specs.declared.job.Full.TheVariants.{NoRoom}
use Rattle.rdm_outbox.specs.Account as outbox
use Rattle.rdm_outbox.specs.Jobs.{jobs_of, ended_of, outstanding_of, next_job, has_room}
use Rattle.rdm_responder.specs.History.{History}
use Rattle.rdm_responder.specs.Requests.{Request, Ignored, Branch, Muting, Get, Set, request_in}
use Rattle.rdm_responder.specs.Rules.{Account, account_of, job_with, job_of, started_by}
use Rattle.rdm_responder.specs.Runs.{outbox_of}
use Rattle.rdm_bus.specs.declared.event.Event.{Event}
use Rattle.rdm_bus.specs.declared.event.Event.TheVariants.{Bus, Arrived, Changed}
use Rattle.rdm_bus.specs.declared.event.Step.{Step}
use Rattle.rdm_bus.specs.declared.event.Step.TheVariants as step
use Rattle.rdm_collector.specs.Collecting.{command_request, poll_request}
use Rattle.rdm_bus.specs.BusRun.{Start, controller_at, IsPlayed, after, after_all, IsBusRun}
use Rattle.rdm_bus.specs.Happened.{started_in, jobs_in, reports_in, reports_of}
use Rattle.rdm_bus.proofs.Accounts.{workers_of, run_grows, ended_count}
use Rattle.rdm_crew.specs.Setups.{switched_on}
use Rattle.rdm_crew.specs.declared.setup.Setup.{Setup}

-- ---- from the moment that the device is switched on

-- all that a run of a device with this choice of workers tells of the account
pub record Tells (ws : Choice) (a : outbox.Account) (es : List Event) : Type 0 where
  pub accepted : a.accepted ≡ jobs_in es
  pub ended : a.ended ≡ workers_of ws (reports_in es)
  pub most : a.jobs ≡ 4294967295
  pub workers : a.workers ≡ ws

no_jobs : (setup : Setup) → (outbox_of (switched_on setup).history).accepted ≡ []
unfolding account_of
no_jobs setup = refl

none_ended : (setup : Setup) → (outbox_of (switched_on setup).history).ended ≡ []
unfolding account_of
none_ended setup = refl

most_given : (setup : Setup) → (outbox_of (switched_on setup).history).jobs ≡ 4294967295
unfolding account_of
most_given setup = refl

pub first_choice : (setup : Setup) → (outbox_of (switched_on setup).history).workers ≡ setup.profile.workers
unfolding account_of
first_choice setup = refl

pub run_tells : (setup : Setup) (steps : List Step) (es : List Event) → IsBusRun (switched_on setup) steps es → Tells setup.profile.workers (outbox_of (after_all (switched_on setup) es).history) es
run_tells setup steps es run =
    let all = run_grows (switched_on setup) steps es run in
    let before : Choice = (outbox_of (switched_on setup).history).workers in
    record {
      accepted = all.accepted ∙ ap (λ (l : List Job). l ++ jobs_in es) (no_jobs setup);
      ended =
          all.ended
          ∙ ap (λ (l : List ℕ). l ++ workers_of before (reports_in es)) (none_ended setup)
          ∙ ap (λ (ws : Choice). workers_of ws (reports_in es)) (first_choice setup);
      most = all.most ∙ most_given setup;
      workers = all.workers ∙ first_choice setup;
    }

-- ---- outstanding jobs

pub outstanding_is : (ws : Choice) (a : outbox.Account) (es : List Event) (p : ℕ) → Tells ws a es → outstanding_of a p ≡ drop (length (reports_of ws p (reports_in es))) (jobs_of ws p (jobs_in es))
outstanding_is ws a es p tells =
    ap (λ (l : List ℕ). drop (ended_of p l) (jobs_of a.workers p a.accepted)) tells.ended
    ∙ ap (λ (v : Choice). drop (ended_of p (workers_of ws (reports_in es))) (jobs_of v p a.accepted)) tells.workers
    ∙ ap (λ (l : List Job). drop (ended_of p (workers_of ws (reports_in es))) (jobs_of ws p l)) tells.accepted
    ∙ ap (λ n. drop n (jobs_of ws p (jobs_in es))) (ended_count ws p (reports_in es))

-- ---- the jobs that start

-- A slow command, for whose job its worker's number had room.
pub record IsNextJob (a : outbox.Account) (j : Job) : Type 0 where
  pub below : length (jobs_of a.workers (worker_at a.workers j.work) a.accepted) < a.jobs
  pub slow : is_slow (command_of j.work.pid j.work.verb) ≡ true

abbrev IfJob : (Job → Type 0) → Option Job → Type 0
IfJob P None = Unit {0}
IfJob P (Some j) = P j

has_number : (b : outbox.Account) (work : Work) (room : Bool) → has_room b work ≡ room → is_slow (command_of work.pid work.verb) ≡ true → IfJob (IsNextJob b) (result_ok (cond room (Ok (next_job b work)) (Err NoRoom)))
has_number b work false e slow = tt
has_number b work true e slow = record { below = ltb-true _ _ (and_parts _ _ e).1; slow = slow }

started_is : (b : outbox.Account) (v : Verdict) → ((w : Work) → v ≡ verdict.Start w → is_slow (command_of w.pid w.verb) ≡ true) → IfJob (IsNextJob b) (started_by b v)
started_is b (verdict.Start work) slow = has_number b work (has_room b work) refl (slow work refl)
started_is b (verdict.Queue ask) slow = tt
started_is b (verdict.Status ask) slow = tt
started_is b (verdict.Reply bytes) slow = tt
started_is b verdict.Clear slow = tt
started_is b (verdict.Refuse nack) slow = tt

request_starts : GetStartsItsWork → SetStartsItsWork → (a : Account) (q : Request) → IfJob (IsNextJob a.outbox) (job_with a q)
request_starts gets sets a Ignored = tt
request_starts gets sets a (Branch lower upper) = tt
request_starts gets sets a (Muting muted f) = tt
request_starts gets sets a (Get f) = started_is a.outbox _ (λ w e. (gets a.parameters f.sub f.pid f.body w e).accepted.slow)
request_starts gets sets a (Set f) = started_is a.outbox _ (λ w e. (sets a.parameters f.sub f.pid f.body w e).accepted.slow)

heard_starts : GetStartsItsWork → SetStartsItsWork → (h : History) (heard? : Option (List ℕ)) → IfJob (IsNextJob (outbox_of h)) (option_and_then (job_of h) heard?)
heard_starts gets sets h None = tt
heard_starts gets sets h (Some bytes) = request_starts gets sets (account_of h) (request_in (account_of h).setup.uid (frame_in bytes))

-- all of these jobs
abbrev pub Each : (Job → Type 0) → List Job → Type 0
Each P [] = Unit {0}
Each P (j ∷ js) = P j × Each P js

as_list : (P : Job → Type 0) (o : Option Job) → IfJob P o → Each P (option_to_list o)
as_list P None all = tt
as_list P (Some j) all = (all, tt)

pub event_starts : GetStartsItsWork → SetStartsItsWork → (s : Start) (p : Step) (e : Event) → IsPlayed s p e → Each (IsNextJob (outbox_of s.history)) (started_in e)
event_starts gets sets s (step.Ask c f) e is =
    subst (λ (v : Event). Each (IsNextJob (outbox_of s.history)) (started_in v)) (sym is.1.event_is)
    (as_list _ _ (heard_starts gets sets s.history (request_heard f (frame_text (command_request (controller_at s) c)))))
event_starts gets sets s (step.Collect f) e is =
    subst (λ (v : Event). Each (IsNextJob (outbox_of s.history)) (started_in v)) (sym is.event_is)
    (as_list _ _ (heard_starts gets sets s.history (request_heard f (frame_text (poll_request (controller_at s))))))
event_starts gets sets s (step.Arrive r) (Bus sent poll f reply job taken) is = absurd is
event_starts gets sets s (step.Arrive r) (Arrived reported m kept) is = tt
event_starts gets sets s (step.Arrive r) (Changed change m) is = absurd is
event_starts gets sets s (step.Change change) (Bus sent poll f reply job taken) is = absurd is
event_starts gets sets s (step.Change change) (Arrived reported m kept) is = absurd is
event_starts gets sets s (step.Change change) (Changed change' m) is = tt

-- every job of a run is a slow command
abbrev pub IsSlowJob : Job → Type 0
IsSlowJob j = is_slow (command_of j.work.pid j.work.verb) ≡ true

Each-append : (P : Job → Type 0) (js ks : List Job) → Each P js → Each P ks → Each P (js ++ ks)
Each-append P [] ks one two = two
Each-append P (j ∷ js) ks one two = (one.0, Each-append P js ks one.1 two)

are_slow : (a : outbox.Account) (js : List Job) → Each (IsNextJob a) js → Each IsSlowJob js
are_slow a [] all = tt
are_slow a (j ∷ js) all = (all.0.slow, are_slow a js all.1)

pub all_slow : GetStartsItsWork → SetStartsItsWork → (s : Start) (steps : List Step) (es : List Event) → IsBusRun s steps es → Each IsSlowJob (jobs_in es)
unfolding jobs_in
all_slow gets sets s [] [] run = tt
all_slow gets sets s [] (e ∷ es) run = absurd run
all_slow gets sets s (p ∷ ps) [] run = absurd run
all_slow gets sets s (p ∷ ps) (e ∷ es) run =
    Each-append IsSlowJob (started_in e) (jobs_in es) (are_slow _ (started_in e) (event_starts gets sets s p e run.0)) (all_slow gets sets (after s e) ps es run.1)

-- ---- the jobs of a worker

some_is : (x j : Job) → Some x ≡ Some j → x ≡ j
some_is x j e = cc

at_cond : (P : Job → Type 0) (keep : Job → Bool) (x : Job) (ys : List Job) (n : ℕ) (j : Job) (b : Bool) → keep x ≡ b → P x → ((m : ℕ) → slice_get ys m ≡ Some j → P j × (keep j ≡ true)) → slice_get (cond b (x ∷ ys) ys) n ≡ Some j → P j × (keep j ≡ true)
at_cond P keep x ys zero j true e one rest at = subst (λ i. P i × (keep i ≡ true)) (some_is x j at) (one, e)
at_cond P keep x ys (suc n) j true e one rest at = rest n at
at_cond P keep x ys n j false e one rest at = rest n at

pub at_filter : (P : Job → Type 0) (keep : Job → Bool) (js : List Job) (n : ℕ) (j : Job) → Each P js → slice_get (filter keep js) n ≡ Some j → P j × (keep j ≡ true)
at_filter P keep [] n j all at = absurd cc
at_filter P keep (x ∷ xs) n j all at = at_cond P keep x (filter keep xs) n j (keep x) refl all.0 (λ m. at_filter P keep xs m j all.1) at

pub first_left : (n : ℕ) (js : List Job) → slice_get (drop n js) 0 ≡ slice_get js n
first_left zero [] = refl
first_left zero (j ∷ js) = refl
first_left (suc n) [] = refl
first_left (suc n) (j ∷ js) = first_left n js
