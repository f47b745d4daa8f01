-- Which jobs are outstanding, and what is reported of them.
use Rattle.std.proofs.Common.{◌≡◌, ℕ, zero, suc, ◌==◌, ◌⊎◌, inl, inr, Bool, true, false, cond, List, [], ◌∷◌, ◌++◌, drop, Option, Some, None, Result, Ok, Err, refl, sym, ap, subst, ◌∙◌}
use Rattle.std.specs.Prelude.{filter, fold, slice_get, nat_lt, nat_le, OnOk, IfErr}
use Rattle.std.specs.Option.{option_to_list}
use Rattle.std.specs.Result.{result_ok}
use Rattle.std.proofs.lemmas.Bool.{eqb-true}
use Rattle.rdm_frame.specs.declared.status.Entry.{Entry}
use Rattle.rdm_frame.specs.Reading.{frame_in}
use Rattle.rdm_commands.specs.declared.panel.Change.{Change}
use Rattle.rdm_commands.specs.declared.jobs.work.Work.{Work}
use Rattle.rdm_commands.specs.declared.verdict.Verdict.{Verdict}
use Rattle.rdm_commands.specs.declared.verdict.Verdict.TheVariants as verdict
use Rattle.rdm_params.specs.Table.Rows.{command_of}
use Rattle.rdm_params.specs.Jobs.Laws.{GetStartsItsWork, SetStartsItsWork}
use Rattle.rdm_responder.specs.Laws.{values_of}
use Rattle.rdm_params.specs.Table.Uses.{is_slow}
use Rattle.rdm_outbox.specs.declared.job.Job.{Job}
use Rattle.rdm_outbox.specs.declared.job.Full.TheVariants.{NoRoom}
use Rattle.rdm_outbox.specs.Account as outbox
use Rattle.rdm_outbox.specs.Jobs.{jobs_of, ended_of, next_job, has_room}
use Rattle.rdm_responder.specs.declared.report.Report.{Report}
use Rattle.rdm_responder.specs.declared.report.Arrival.{Arrival}
use Rattle.rdm_responder.specs.declared.report.Astray.{Astray}
use Rattle.rdm_responder.specs.History.{Event, Heard, Arrived, Changed, Placed, Noted, Restored, Dropped, History}
use Rattle.rdm_responder.specs.Requests.{Request, Ignored, Branch, Muting, Get, Set, request_in}
use Rattle.rdm_responder.specs.Rules.{Account, account_of, account_before, account_after, job_with, started_by}
use Rattle.rdm_responder.specs.Runs.{outbox_of}
use Rattle.rdm_responder.proofs.Growth.{job_at, event_grows}
use Rattle.rdm_widget.specs.declared.live_fixture.ending.Ended.{Ended}
use Rattle.rdm_params.specs.Device.Parameters.{Parameters}
use Rattle.rdm_widget.specs.LiveFixtures.{Situation, worker_in, oldest_of, ended_by, end_of, earlier, first_ended, reported_in}

-- ---- lists of jobs

-- all of these jobs
abbrev pub Each : (Job → Type 0) → List Job → Type 0
Each P [] = Unit {0}
Each P (j ∷ js) = P j × Each P js

Each-append : (P : Job → Type 0) (js ks : List Job) → Each P js → Each P ks → Each P (js ++ ks)
Each-append P [] ks one two = two
Each-append P (j ∷ js) ks one two = (one.0, Each-append P js ks one.1 two)

some_is : (x j : Job) → Some x ≡ Some j → x ≡ j
some_is x j e = cc

at_cond : (P : Job → Type 0) (keep : Job → Bool) (x : Job) (ys : List Job) (n : ℕ) (j : Job) (b : Bool) → keep x ≡ b → P x → ((m : ℕ) → slice_get ys m ≡ Some j → P j × (keep j ≡ true)) → slice_get (cond b (x ∷ ys) ys) n ≡ Some j → P j × (keep j ≡ true)
at_cond P keep x ys zero j true e one rest at = subst (λ i. P i × (keep i ≡ true)) (some_is x j at) (one, e)
at_cond P keep x ys (suc n) j true e one rest at = rest n at
at_cond P keep x ys n j false e one rest at = rest n at

at_filter : (P : Job → Type 0) (keep : Job → Bool) (js : List Job) (n : ℕ) (j : Job) → Each P js → slice_get (filter keep js) n ≡ Some j → P j × (keep j ≡ true)
at_filter P keep [] n j all at = absurd cc
at_filter P keep (x ∷ xs) n j all at = at_cond P keep x (filter keep xs) n j (keep x) refl all.0 (λ m. at_filter P keep xs m j all.1) at

first_left : (n : ℕ) (js : List Job) → slice_get (drop n js) 0 ≡ slice_get js n
first_left zero [] = refl
first_left zero (j ∷ js) = refl
first_left (suc n) [] = refl
first_left (suc n) (j ∷ js) = first_left n js

-- ---- every job is that of a slow command

abbrev pub IsSlowJob : Job → Type 0
IsSlowJob j = is_slow (command_of j.work.pid j.work.verb) ≡ true

abbrev IfJob : Option Job → Type 0
IfJob None = Unit {0}
IfJob (Some j) = IsSlowJob j

if_room : (b : outbox.Account) (work : Work) (room : Bool) → is_slow (command_of work.pid work.verb) ≡ true → IfJob (result_ok (cond room (Ok (next_job b work)) (Err NoRoom)))
if_room b work false slow = tt
if_room b work true slow = slow

started_is : (b : outbox.Account) (v : Verdict) → ((w : Work) → v ≡ verdict.Start w → is_slow (command_of w.pid w.verb) ≡ true) → IfJob (started_by b v)
started_is b (verdict.Start work) slow = if_room b work (has_room b work) (slow work refl)
started_is b (verdict.Queue ask) slow = tt
started_is b (verdict.Status ask) slow = tt
started_is b (verdict.Reply bytes) slow = tt
started_is b verdict.Clear slow = tt
started_is b (verdict.Refuse nack) slow = tt

request_starts : GetStartsItsWork → SetStartsItsWork → (a : Account) (q : Request) → IfJob (job_with a q)
request_starts gets sets a Ignored = tt
request_starts gets sets a (Branch lower upper) = tt
request_starts gets sets a (Muting muted f) = tt
request_starts gets sets a (Get f) = started_is a.outbox _ (λ w e. (gets a.parameters f.sub f.pid f.body w e).accepted.slow)
request_starts gets sets a (Set f) = started_is a.outbox _ (λ w e. (sets a.parameters f.sub f.pid f.body w e).accepted.slow)

as_list : (o : Option Job) → IfJob o → Each IsSlowJob (option_to_list o)
as_list None all = tt
as_list (Some j) all = (all, tt)

event_starts : GetStartsItsWork → SetStartsItsWork → (a : Account) (e : Event) → Each IsSlowJob (option_to_list (job_at a e))
event_starts gets sets a (Heard bytes) = as_list (job_with a (request_in a.setup.uid (frame_in bytes))) (request_starts gets sets a (request_in a.setup.uid (frame_in bytes)))
event_starts gets sets a (Arrived r) = tt
event_starts gets sets a (Changed change) = tt
event_starts gets sets a (Placed sub pid bytes) = tt
event_starts gets sets a (Noted entry) = tt
event_starts gets sets a (Restored image) = tt
event_starts gets sets a Dropped = tt

all_slow : GetStartsItsWork → SetStartsItsWork → (a : Account) (es : List Event) → Each IsSlowJob a.outbox.accepted → Each IsSlowJob (fold account_after a es).outbox.accepted
all_slow gets sets a [] all = all
all_slow gets sets a (e ∷ es) all =
    all_slow gets sets (account_after a e) es
    (subst (Each IsSlowJob) (sym (event_grows a e).accepted) (Each-append IsSlowJob a.outbox.accepted (option_to_list (job_at a e)) all (event_starts gets sets a e)))

accepted_slow : GetStartsItsWork → SetStartsItsWork → (h : History) → Each IsSlowJob (outbox_of h).accepted
unfolding account_of
accepted_slow gets sets h = all_slow gets sets (account_before h.setup) h.events tt

-- ---- the job that a worker is at

pub oldest_is : GetStartsItsWork → SetStartsItsWork → (h : History) (worker : ℕ) (j : Job) → oldest_of h worker ≡ Some j → IsSlowJob j × ((worker_in h j == worker) ≡ true)
oldest_is gets sets h worker j e =
    at_filter IsSlowJob (λ job. worker_in h job == worker) (outbox_of h).accepted (ended_of worker (outbox_of h).ended) j (accepted_slow gets sets h)
    (sym (first_left (ended_of worker (outbox_of h).ended) (jobs_of (outbox_of h).workers worker (outbox_of h).accepted)) ∙ e)

abbrev Any : Job → Type 0
Any j = Unit {0}

each_any : (js : List Job) → Each Any js
each_any [] = tt
each_any (j ∷ js) = (tt, each_any js)

pub worker_is : (h : History) (worker : ℕ) (j : Job) → oldest_of h worker ≡ Some j → worker_in h j ≡ worker
worker_is h worker j e =
    eqb-true (worker_in h j) worker
    (at_filter Any (λ job. worker_in h job == worker) (outbox_of h).accepted (ended_of worker (outbox_of h).ended) j (each_any (outbox_of h).accepted)
    (sym (first_left (ended_of worker (outbox_of h).ended) (jobs_of (outbox_of h).workers worker (outbox_of h).accepted)) ∙ e)).1

-- ---- the job that ended first

ended_if : (b : Bool) (x e : Ended) → cond b (Some x) None ≡ Some e → x ≡ e
ended_if true x e is = cc
ended_if false x e is = absurd cc

abbrev some_job : Job → Option Job
some_job j = Some j

ended_job : (values : Parameters) (now worker since : ℕ) (o : Option Job) (e : Ended) → ended_by values now worker since o ≡ Some e → o ≡ Some e.job
ended_job values now worker since None e is = absurd cc
ended_job values now worker since (Some j) e is =
    ap (λ (x : Ended). some_job x.job) (ended_if (nat_le (end_of values since j) now) (record { job = j; worker = worker; at = end_of values since j }) e is)

abbrev some_end : Ended → Option Ended
some_end e = Some e

either_is : (b : Bool) (x y e : Ended) → some_end (cond b x y) ≡ Some e → (some_end x ≡ Some e) ⊎ (some_end y ≡ Some e)
either_is true x y e is = inl is
either_is false x y e is = inr is

earlier_is : (p q : Option Ended) (e : Ended) → earlier p q ≡ Some e → (p ≡ Some e) ⊎ (q ≡ Some e)
earlier_is (Some x) (Some y) e is =
    elim (either_is (nat_lt y.at x.at) y x e is) [ inl k ↦ inr k | inr k ↦ inl k ]
earlier_is (Some x) None e is = inl is
earlier_is None q e is = inr is

of_worker : (h : History) (worker : ℕ) (j : Job) → oldest_of h worker ≡ Some j → oldest_of h (worker_in h j) ≡ Some j
of_worker h worker j e = subst (λ w. oldest_of h w ≡ Some j) (sym (worker_is h worker j e)) e

pub first_is : (now : ℕ) (s : Situation) (e : Ended) → first_ended now s ≡ Some e → oldest_of s.history (worker_in s.history e.job) ≡ Some e.job
first_is now s e is =
    elim (earlier_is (ended_by (values_of s.history) now 0 s.first_since (oldest_of s.history 0)) (ended_by (values_of s.history) now 1 s.second_since (oldest_of s.history 1)) e is) [
      | inl k ↦ of_worker s.history 0 e.job (ended_job (values_of s.history) now 0 s.first_since (oldest_of s.history 0) e k)
      | inr k ↦ of_worker s.history 1 e.job (ended_job (values_of s.history) now 1 s.second_since (oldest_of s.history 1) e k)
    ]

-- there are two workers
pub which : (now : ℕ) (s : Situation) (e : Ended) → first_ended now s ≡ Some e → (worker_in s.history e.job ≡ 0) ⊎ (worker_in s.history e.job ≡ 1)
which now s e is =
    elim (earlier_is (ended_by (values_of s.history) now 0 s.first_since (oldest_of s.history 0)) (ended_by (values_of s.history) now 1 s.second_since (oldest_of s.history 1)) e is) [
      | inl k ↦ inl (worker_is s.history 0 e.job (ended_job (values_of s.history) now 0 s.first_since (oldest_of s.history 0) e k))
      | inr k ↦ inr (worker_is s.history 1 e.job (ended_job (values_of s.history) now 1 s.second_since (oldest_of s.history 1) e k))
    ]

-- ---- a report

pub reported-then : (es : List Event) (r : Report) → reported_in (es ++ Arrived r ∷ []) ≡ reported_in es ++ r.job ∷ []
reported-then [] r = refl
reported-then (Heard bytes ∷ es) r = reported-then es r
reported-then (Arrived x ∷ es) r = ap (λ (l : List Job). x.job ∷ l) (reported-then es r)
reported-then (Changed change ∷ es) r = reported-then es r
reported-then (Placed sub pid bytes ∷ es) r = reported-then es r
reported-then (Noted entry ∷ es) r = reported-then es r
reported-then (Restored image ∷ es) r = reported-then es r
reported-then (Dropped ∷ es) r = reported-then es r

pub reported-heard : (es : List Event) (bytes : List ℕ) → reported_in (es ++ Heard bytes ∷ []) ≡ reported_in es
reported-heard [] bytes = refl
reported-heard (Heard b ∷ es) bytes = reported-heard es bytes
reported-heard (Arrived x ∷ es) bytes = ap (λ (l : List Job). x.job ∷ l) (reported-heard es bytes)
reported-heard (Changed change ∷ es) bytes = reported-heard es bytes
reported-heard (Placed sub pid placed ∷ es) bytes = reported-heard es bytes
reported-heard (Noted entry ∷ es) bytes = reported-heard es bytes
reported-heard (Restored image ∷ es) bytes = reported-heard es bytes
reported-heard (Dropped ∷ es) bytes = reported-heard es bytes

pub reported-changed : (es : List Event) (change : Change) → reported_in (es ++ Changed change ∷ []) ≡ reported_in es
reported-changed [] change = refl
reported-changed (Heard b ∷ es) change = reported-changed es change
reported-changed (Arrived x ∷ es) change = ap (λ (l : List Job). x.job ∷ l) (reported-changed es change)
reported-changed (Changed other ∷ es) change = reported-changed es change
reported-changed (Placed sub pid bytes ∷ es) change = reported-changed es change
reported-changed (Noted entry ∷ es) change = reported-changed es change
reported-changed (Restored image ∷ es) change = reported-changed es change
reported-changed (Dropped ∷ es) change = reported-changed es change

pub reported-restored : (es : List Event) (image : List ℕ) → reported_in (es ++ Restored image ∷ []) ≡ reported_in es
reported-restored [] image = refl
reported-restored (Heard b ∷ es) image = reported-restored es image
reported-restored (Arrived x ∷ es) image = ap (λ (l : List Job). x.job ∷ l) (reported-restored es image)
reported-restored (Changed change ∷ es) image = reported-restored es image
reported-restored (Placed sub pid bytes ∷ es) image = reported-restored es image
reported-restored (Noted entry ∷ es) image = reported-restored es image
reported-restored (Restored other ∷ es) image = reported-restored es image
reported-restored (Dropped ∷ es) image = reported-restored es image

pub reported-placed : (es : List Event) (sub pid : ℕ) (bytes : List ℕ) → reported_in (es ++ Placed sub pid bytes ∷ []) ≡ reported_in es
reported-placed [] sub pid bytes = refl
reported-placed (Heard b ∷ es) sub pid bytes = reported-placed es sub pid bytes
reported-placed (Arrived x ∷ es) sub pid bytes = ap (λ (l : List Job). x.job ∷ l) (reported-placed es sub pid bytes)
reported-placed (Changed change ∷ es) sub pid bytes = reported-placed es sub pid bytes
reported-placed (Placed other key more ∷ es) sub pid bytes = reported-placed es sub pid bytes
reported-placed (Noted entry ∷ es) sub pid bytes = reported-placed es sub pid bytes
reported-placed (Restored image ∷ es) sub pid bytes = reported-placed es sub pid bytes
reported-placed (Dropped ∷ es) sub pid bytes = reported-placed es sub pid bytes

pub reported-noted : (es : List Event) (entry : Entry) → reported_in (es ++ Noted entry ∷ []) ≡ reported_in es
reported-noted [] entry = refl
reported-noted (Heard b ∷ es) entry = reported-noted es entry
reported-noted (Arrived x ∷ es) entry = ap (λ (l : List Job). x.job ∷ l) (reported-noted es entry)
reported-noted (Changed change ∷ es) entry = reported-noted es entry
reported-noted (Placed sub pid bytes ∷ es) entry = reported-noted es entry
reported-noted (Noted other ∷ es) entry = reported-noted es entry
reported-noted (Restored image ∷ es) entry = reported-noted es entry
reported-noted (Dropped ∷ es) entry = reported-noted es entry

-- what must come to pass where no report is astray
pub never_astray : (r : Result Arrival Astray) (P : Type 0) (Q : Astray → Type 0) → OnOk r P → IfErr r Q → ((a : Astray) → Q a → ⊥) → P
never_astray (Ok arrival) P Q ok err none = ok
never_astray (Err astray) P Q ok err none = absurd (none astray err)
