-- Once the reports are handed in, no outstanding job has ended.
use Rattle.std.proofs.Common.{◌≡◌, ℕ, zero, suc, ◌+◌, ◌≤◌, ◌==◌, ◌⊎◌, inl, inr, Bool, true, false, cond, List, [], ◌∷◌, ◌++◌, length, drop, Option, Some, None, refl, sym, ap, subst, ◌∙◌, arith, append-nil, add-zero, add-one}
use Rattle.std.specs.Prelude.{slice_get}
use Rattle.std.proofs.lemmas.List.Sums.{sum_by-append, sum_by-cons}
use Rattle.rdm_params.specs.Jobs.Work.{Choice}
use Rattle.rdm_outbox.specs.declared.job.Job.{Job}
use Rattle.rdm_outbox.specs.Account as outbox
use Rattle.rdm_outbox.specs.Jobs.{jobs_of, ended_of, outstanding_of, outstanding_count}
use Rattle.rdm_responder.specs.History.{Arrived, History, then_event}
use Rattle.rdm_responder.specs.Laws.{values_of}
use Rattle.rdm_responder.specs.Rules.{Account, account_of}
use Rattle.rdm_responder.specs.Runs.{outbox_of}
use Rattle.rdm_responder.specs.declared.report.Report.{Report}
use Rattle.rdm_responder.proofs.Accounts.{account_of-then}
use Rattle.rdm_responder.proofs.Growth.{Grows, event_grows}
use Rattle.rdm_widget.specs.declared.live_fixture.ending.Ended.{Ended}
use Rattle.rdm_params.specs.Device.Parameters.{Parameters}
use Rattle.rdm_widget.specs.LiveFixtures.{Situation, worker_in, oldest_of, ended_by, earlier, first_ended, report_of, after_report, after_ended, after_next, after_several, since_when, begun, reported, up_to_date, ready, NoneHasEnded}
use Rattle.rdm_widget.proofs.Reports.{first_is, which}

-- ---- where none has ended

neither : (p q : Option Ended) → earlier p q ≡ None → (p ≡ None) × (q ≡ None)
neither (Some x) (Some y) e = absurd cc
neither (Some x) None e = absurd cc
neither None q e = (refl, e)

-- it stays so
stays : (n now : ℕ) (s : Situation) → first_ended now s ≡ None → first_ended now (after_several n now s) ≡ None
stays zero now s none = none
stays (suc n) now s none =
    subst (λ (o : Option Ended). first_ended now (after_several n now (after_ended s o)) ≡ None) (sym none) (stays n now s none)

-- ---- a report makes the outstanding jobs fewer by one

one_less : (n : ℕ) (js : List Job) (j : Job) → slice_get (drop n js) 0 ≡ Some j → suc (length (drop (suc n) js)) ≡ length (drop n js)
one_less zero [] j e = absurd cc
one_less zero (x ∷ js) j e = refl
one_less (suc n) [] j e = absurd cc
one_less (suc n) (x ∷ js) j e = one_less n js j e

-- the outstanding jobs of an account of which one worker has ended a job more
ended_more : (w v : ℕ) (ended : List ℕ) (hit : Bool) → (v == w) ≡ hit → ended_of w (ended ++ v ∷ []) ≡ ended_of w ended + cond hit 1 0
ended_more w v ended hit e =
    sum_by-append (λ x. cond (x == w) 1 0) ended (v ∷ []) ∙ ap (λ n. ended_of w ended + n) (sum_by-cons (λ x. cond (x == w) 1 0) v [] ∙ ap (λ (b : Bool). cond b 1 0 + 0) e ∙ add-zero (cond hit 1 0))

same_jobs : (a b : outbox.Account) (w v : ℕ) → b.accepted ≡ a.accepted → b.ended ≡ a.ended ++ v ∷ [] → b.workers ≡ a.workers → (v == w) ≡ false → outstanding_of b w ≡ outstanding_of a w
same_jobs a b w v e f same other =
    ap (λ (c : Choice). drop (ended_of w b.ended) (jobs_of c w b.accepted)) same
    ∙ ap (λ (l : List Job). drop (ended_of w b.ended) (jobs_of a.workers w l)) e
    ∙ ap (λ (l : List ℕ). drop (ended_of w l) (jobs_of a.workers w a.accepted)) f
    ∙ ap (λ n. drop n (jobs_of a.workers w a.accepted)) (ended_more w v a.ended false other ∙ add-zero (ended_of w a.ended))

fewer_jobs : (a b : outbox.Account) (w v : ℕ) (j : Job) → b.accepted ≡ a.accepted → b.ended ≡ a.ended ++ v ∷ [] → b.workers ≡ a.workers → (v == w) ≡ true → slice_get (outstanding_of a w) 0 ≡ Some j
    → suc (length (outstanding_of b w)) ≡ length (outstanding_of a w)
fewer_jobs a b w v j e f same own at =
    let less : outstanding_of b w ≡ drop (suc (ended_of w a.ended)) (jobs_of a.workers w a.accepted) =
    ap (λ (c : Choice). drop (ended_of w b.ended) (jobs_of c w b.accepted)) same
    ∙ ap (λ (l : List Job). drop (ended_of w b.ended) (jobs_of a.workers w l)) e
    ∙ ap (λ (l : List ℕ). drop (ended_of w l) (jobs_of a.workers w a.accepted)) f
    ∙ ap (λ n. drop n (jobs_of a.workers w a.accepted)) (ended_more w v a.ended true own ∙ add-one (ended_of w a.ended)) in
    ap (λ (l : List Job). suc (length l)) less ∙ one_less (ended_of w a.ended) (jobs_of a.workers w a.accepted) j at

account_less : (a b : outbox.Account) (v : ℕ) (j : Job) → b.accepted ≡ a.accepted → b.ended ≡ a.ended ++ v ∷ [] → b.workers ≡ a.workers
    → slice_get (outstanding_of a v) 0 ≡ Some j → (v ≡ 0) ⊎ (v ≡ 1) → suc (outstanding_count b) ≡ outstanding_count a
account_less a b v j e f same at (inl zeroth) =
    let own : (v == 0) ≡ true = ap (λ n. n == 0) zeroth in
    let other : (v == 1) ≡ false = ap (λ n. n == 1) zeroth in
    let one : suc (length (outstanding_of b 0)) ≡ length (outstanding_of a 0) = fewer_jobs a b 0 v j e f same own (subst (λ w. slice_get (outstanding_of a w) 0 ≡ Some j) zeroth at) in
    let two : length (outstanding_of b 1) ≡ length (outstanding_of a 1) = ap (λ (l : List Job). length l) (same_jobs a b 1 v e f same other) in
    omega (arith, one, two)
account_less a b v j e f same at (inr oneth) =
    let own : (v == 1) ≡ true = ap (λ n. n == 1) oneth in
    let other : (v == 0) ≡ false = ap (λ n. n == 0) oneth in
    let one : suc (length (outstanding_of b 1)) ≡ length (outstanding_of a 1) = fewer_jobs a b 1 v j e f same own (subst (λ w. slice_get (outstanding_of a w) 0 ≡ Some j) oneth at) in
    let two : length (outstanding_of b 0) ≡ length (outstanding_of a 0) = ap (λ (l : List Job). length l) (same_jobs a b 0 v e f same other) in
    omega (arith, one, two)

report_grows : (h : History) (r : Report) → Grows (outbox_of h) (outbox_of (then_event h (Arrived r))) [] (worker_in h r.job ∷ [])
report_grows h r =
    subst (λ (a : Account). Grows (outbox_of h) a.outbox [] (worker_in h r.job ∷ [])) (sym (account_of-then h (Arrived r)))
    (event_grows (account_of h) (Arrived r))

report_less : (now : ℕ) (s : Situation) (e : Ended) → first_ended now s ≡ Some e
    → suc (outstanding_count (outbox_of (after_report s e).history)) ≡ outstanding_count (outbox_of s.history)
report_less now s e is =
    let grows : Grows (outbox_of s.history) (outbox_of (after_report s e).history) [] (worker_in s.history e.job ∷ []) = report_grows s.history (report_of s e.job) in
    account_less (outbox_of s.history) (outbox_of (after_report s e).history) (worker_in s.history e.job) e.job
    (grows.accepted ∙ append-nil (outbox_of s.history).accepted) grows.ended grows.workers (first_is now s e is) (which now s e is)

-- ---- so in the end none has ended

none_of_lists : (values : Parameters) (now f g : ℕ) (js ks : List Job) → length js + length ks ≡ 0 → earlier (ended_by values now 0 f (slice_get js 0)) (ended_by values now 1 g (slice_get ks 0)) ≡ None
none_of_lists values now f g [] [] e = refl
none_of_lists values now f g [] (k ∷ ks) e = absurd (omega (arith, e))
none_of_lists values now f g (j ∷ js) ks e = absurd (omega (arith, e))

step : (n now : ℕ) (s : Situation) (o : Option Ended) → first_ended now s ≡ o → outstanding_count (outbox_of s.history) ≤ suc n
    → ((t : Situation) → outstanding_count (outbox_of t.history) ≤ n → first_ended now (after_several n now t) ≡ None)
    → first_ended now (after_several n now (after_next now s)) ≡ None
step n now s None is most rest =
    subst (λ (o : Option Ended). first_ended now (after_several n now (after_ended s o)) ≡ None) (sym is) (stays n now s is)
step n now s (Some e) is most rest =
    subst (λ (o : Option Ended). first_ended now (after_several n now (after_ended s o)) ≡ None) (sym is)
    (rest (after_report s e) (omega (arith, most, report_less now s e is)))

all_reported : (n now : ℕ) (s : Situation) → outstanding_count (outbox_of s.history) ≤ n → first_ended now (after_several n now s) ≡ None
all_reported zero now s most =
    none_of_lists (values_of s.history) now s.first_since s.second_since (outstanding_of (outbox_of s.history) 0) (outstanding_of (outbox_of s.history) 1) (omega (arith, most))
all_reported (suc n) now s most = step n now s (first_ended now s) refl most (λ t. all_reported n now t)

since_none : (values : Parameters) (now worker since : ℕ) (o : Option Job) → ended_by values now worker since o ≡ None → ended_by values now worker (since_when now since o) o ≡ None
since_none values now worker since None e = refl
since_none values now worker since (Some j) e = e

begun_none : (now : ℕ) (s : Situation) → first_ended now s ≡ None → NoneHasEnded now (begun now s)
begun_none now s none =
    let both = neither (ended_by (values_of s.history) now 0 s.first_since (oldest_of s.history 0)) (ended_by (values_of s.history) now 1 s.second_since (oldest_of s.history 1)) none in
    record {
      first = since_none (values_of s.history) now 0 s.first_since (oldest_of s.history 0) both.0;
      second = since_none (values_of s.history) now 1 s.second_since (oldest_of s.history 1) both.1;
    }

reported_none : (now : ℕ) (s : Situation) → NoneHasEnded now (reported now s)
reported_none now s =
    begun_none now (after_several (outstanding_count (outbox_of s.history)) now s)
    (all_reported (outstanding_count (outbox_of s.history)) now s (omega arith))

pub none_has_ended : (now : ℕ) (s : Situation) → NoneHasEnded now (ready now s)
none_has_ended now s = reported_none now (up_to_date now s)
