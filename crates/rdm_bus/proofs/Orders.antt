-- The results of a worker are of its jobs, each once and in their order.
use Rattle.std.proofs.Common.{◌≡◌, ℕ, zero, suc, ◌+◌, ◌≤◌, ◌==◌, Bool, true, false, cond, List, [], ◌∷◌, ◌++◌, length, map, drop, Option, Some, refl, sym, ap, subst, ◌∙◌, arith, append_assoc, append-nil, length-append, length-drop}
use Rattle.std.specs.Prelude.{slice_get}
use Rattle.std.proofs.lemmas.Bool.{eqb-true}
use Rattle.std.proofs.lemmas.List.{drop-append-le, map-append}
use Rattle.std.proofs.lemmas.List.Elements.{filter-append}
use Rattle.std.proofs.lemmas.List.Sums.{sum_by-append}
use Rattle.rdm_frame.specs.declared.message.Message.{Message}
use Rattle.rdm_frame.specs.declared.fault.Fault.{Fault}
use Rattle.rdm_params.specs.Jobs.Work.{Choice, worker_at}
use Rattle.rdm_outbox.specs.declared.job.Job.{Job}
use Rattle.rdm_outbox.specs.Account as outbox
use Rattle.rdm_outbox.specs.Jobs.{jobs_of, ended_of, outstanding_of}
use Rattle.rdm_responder.specs.declared.report.Report.{Report}
use Rattle.rdm_responder.specs.Runs.{outbox_of}
use Rattle.rdm_bus.specs.declared.event.Event.{Event}
use Rattle.rdm_bus.specs.declared.event.Event.TheVariants.{Bus, Arrived, Changed}
use Rattle.rdm_bus.specs.declared.event.Step.{Step}
use Rattle.rdm_bus.specs.declared.event.Step.TheVariants as step
use Rattle.rdm_collector.specs.declared.transaction.Heard.{Heard}
use Rattle.rdm_bus.specs.BusRun.{Start, IsPlayed, after, after_all, IsBusRun}
use Rattle.rdm_bus.specs.Happened.{started_in, arrived_in, jobs_in, reports_in, reports_of}
use Rattle.rdm_responder.proofs.Growth.{Grows}
use Rattle.rdm_bus.proofs.Accounts.{happens}

-- no more of a worker's jobs have ended than were accepted
abbrev pub EndsWithin : ℕ → outbox.Account → Type 0
EndsWithin w b = ended_of w b.ended ≤ length (jobs_of b.workers w b.accepted)

-- the jobs of these results
abbrev pub done_by : List Report → List Job
done_by rs = map (λ r. r.job) rs

-- From one account to another, of one choice of workers, these jobs were accepted, and these results came.
pub record Moves (w : ℕ) (b b' : outbox.Account) (js : List Job) (rs : List Report) : Type 0 where
  pub kept : done_by (reports_of b.workers w rs) ++ outstanding_of b' w ≡ outstanding_of b w ++ jobs_of b.workers w js
  pub within : EndsWithin w b'

-- ---- jobs are accepted

within_more : (n k : ℕ) (xs ys zs : List Job) → k ≡ n → zs ≡ xs ++ ys → n ≤ length xs → k ≤ length zs
within_more n k xs ys zs e1 e2 le = omega (arith, e1, ap length e2, length-append xs ys, le)

pub accepts : (w : ℕ) (b b' : outbox.Account) (js : List Job) → Grows b b' js [] → EndsWithin w b → Moves w b b' js []
accepts w b b' js g within =
    let n : ℕ = ended_of w b.ended in
    let xs : List Job = jobs_of b.workers w b.accepted in
    let ys : List Job = jobs_of b.workers w js in
    let e1 : ended_of w b'.ended ≡ n = ap (ended_of w) (g.ended ∙ append-nil b.ended) in
    let e2 : jobs_of b'.workers w b'.accepted ≡ xs ++ ys =
    ap (λ (v : Choice). jobs_of v w b'.accepted) g.workers ∙ ap (jobs_of b.workers w) g.accepted ∙ filter-append (λ (j : Job). worker_at b.workers j.work == w) b.accepted js in
    record {
      kept = ap (λ k. drop k (jobs_of b'.workers w b'.accepted)) e1 ∙ ap (drop n) e2 ∙ drop-append-le n xs ys within;
      within = within_more n (ended_of w b'.ended) xs ys (jobs_of b'.workers w b'.accepted) e1 e2 within;
    }

-- ---- a result comes

some_is : (x j : Job) → Some x ≡ Some j → x ≡ j
some_is x j e = cc

one_less : (n : ℕ) (xs : List Job) (j : Job) → slice_get (drop n xs) 0 ≡ Some j → j ∷ drop (suc n) xs ≡ drop n xs
one_less zero [] j at = absurd cc
one_less zero (x ∷ xs) j at = ap (λ (y : Job). y ∷ xs) (sym (some_is x j at))
one_less (suc n) [] j at = absurd cc
one_less (suc n) (x ∷ xs) j at = one_less n xs j at

one_more : (n : ℕ) (xs : List Job) (j : Job) → slice_get (drop n xs) 0 ≡ Some j → suc n ≤ length xs
one_more n xs j at = omega (arith, ap length (one_less n xs j at), length-drop n xs)

none_before : (k : ℕ) → 0 + k ≡ k
none_before k = omega arith

ended_more : (w v : ℕ) (ended : List ℕ) → ended_of w (ended ++ v ∷ []) ≡ ended_of w ended + cond (v == w) 1 0
ended_more w v ended = sum_by-append (λ u. cond (u == w) 1 0) ended (v ∷ []) ∙ ap (λ k. ended_of w ended + k) (none_before (cond (v == w) 1 0))

comes_by : (w : ℕ) (b b' : outbox.Account) (r : Report) (own? : Bool) → (worker_at b.workers r.job.work == w) ≡ own? → jobs_of b'.workers w b'.accepted ≡ jobs_of b.workers w b.accepted → ended_of w b'.ended ≡ ended_of w b.ended + cond own? 1 0
    → (own? ≡ true → slice_get (outstanding_of b w) 0 ≡ Some r.job) → EndsWithin w b → Moves w b b' [] (r ∷ [])
comes_by w b b' r true own e1 e2 oldest within =
    let n : ℕ = ended_of w b.ended in
    let xs : List Job = jobs_of b.workers w b.accepted in
    let up : ended_of w b'.ended ≡ suc n = omega (arith, e2) in
    record {
      kept = ap (λ (c : Bool). done_by (cond c (r ∷ []) []) ++ outstanding_of b' w) own
          ∙ ap (λ k. r.job ∷ drop k (jobs_of b'.workers w b'.accepted)) up
          ∙ ap (λ (js : List Job). r.job ∷ drop (suc n) js) e1
          ∙ one_less n xs r.job (oldest refl)
          ∙ sym (append-nil (drop n xs));
      within = within_more (suc n) (ended_of w b'.ended) xs [] (jobs_of b'.workers w b'.accepted) up (e1 ∙ sym (append-nil xs)) (one_more n xs r.job (oldest refl));
    }
comes_by w b b' r false own e1 e2 oldest within =
    let n : ℕ = ended_of w b.ended in
    let xs : List Job = jobs_of b.workers w b.accepted in
    let same : ended_of w b'.ended ≡ n = omega (arith, e2) in
    record {
      kept = ap (λ (c : Bool). done_by (cond c (r ∷ []) []) ++ outstanding_of b' w) own
          ∙ ap (λ k. drop k (jobs_of b'.workers w b'.accepted)) same
          ∙ ap (drop n) e1
          ∙ sym (append-nil (drop n xs));
      within = within_more n (ended_of w b'.ended) xs [] (jobs_of b'.workers w b'.accepted) same (e1 ∙ sym (append-nil xs)) within;
    }

pub comes : (w : ℕ) (b b' : outbox.Account) (r : Report) → Grows b b' [] (worker_at b.workers r.job.work ∷ []) → slice_get (outstanding_of b (worker_at b.workers r.job.work)) 0 ≡ Some r.job → EndsWithin w b → Moves w b b' [] (r ∷ [])
comes w b b' r g oldest within =
    comes_by w b b' r (worker_at b.workers r.job.work == w) refl
    (ap (λ (v : Choice). jobs_of v w b'.accepted) g.workers ∙ ap (jobs_of b.workers w) (g.accepted ∙ append-nil b.accepted))
    (ap (ended_of w) g.ended ∙ ended_more w (worker_at b.workers r.job.work) b.ended)
    (λ own. subst (λ v. slice_get (outstanding_of b v) 0 ≡ Some r.job) (eqb-true _ _ own) oldest)
    within

-- ---- an event, and a run

no_bus : (r : Report) (m : Message) (kept : Bool) (sent : List ℕ) (poll : Bool) (f : Fault) (reply : Option (List ℕ)) (job : Option Job) (taken : Option Heard) → Arrived r m kept ≡ Bus sent poll f reply job taken → ⊥
no_bus r m kept sent poll f reply job taken e = cc

abbrev MovesAt : ℕ → Start → Event → Type 0
MovesAt w s e = Moves w (outbox_of s.history) (outbox_of (after s e).history) (started_in e) (arrived_in e)

event_moves : (w : ℕ) (s : Start) (p : Step) (e : Event) → IsPlayed s p e → EndsWithin w (outbox_of s.history) → MovesAt w s e
event_moves w s p (Bus sent poll f reply job taken) is within = accepts w _ _ _ (happens s p (Bus sent poll f reply job taken) is) within
event_moves w s p (Changed change m) is within = accepts w _ _ [] (happens s p (Changed change m) is) within
event_moves w s (step.Arrive r) (Arrived reported m kept) is within =
    comes w _ _ reported (happens s (step.Arrive r) (Arrived reported m kept) is)
    (subst (λ (v : Report). slice_get (outstanding_of (outbox_of s.history) (worker_at (outbox_of s.history).workers v.job.work)) 0 ≡ Some v.job) (sym is.0) is.1.may.oldest) within
event_moves w s (step.Ask c f) (Arrived reported m kept) is within = absurd (no_bus reported m kept _ _ _ _ _ _ is.1.event_is)
event_moves w s (step.Collect f) (Arrived reported m kept) is within = absurd (no_bus reported m kept _ _ _ _ _ _ is.event_is)
event_moves w s (step.Change change) (Arrived reported m kept) is within = absurd is

-- what is left after two parts is what was there at first and came in both
chain : (dx dy last middle first jx jy : List Job) → dx ++ middle ≡ first ++ jx → dy ++ last ≡ middle ++ jy → (dx ++ dy) ++ last ≡ first ++ (jx ++ jy)
chain dx dy last middle first jx jy e1 e2 =
    append_assoc dx dy last
    ∙ ap (λ (l : List Job). dx ++ l) e2
    ∙ sym (append_assoc dx middle jy)
    ∙ ap (λ (l : List Job). l ++ jy) e1
    ∙ append_assoc first jx jy

parts_done : (ws : Choice) (w : ℕ) (xs ys : List Report) → done_by (reports_of ws w (xs ++ ys)) ≡ done_by (reports_of ws w xs) ++ done_by (reports_of ws w ys)
parts_done ws w xs ys =
    ap done_by (filter-append (λ (r : Report). worker_at ws r.job.work == w) xs ys)
    ∙ map-append (λ (r : Report). r.job) (reports_of ws w xs) (reports_of ws w ys)

abbrev MovesIn : ℕ → Start → List Event → Type 0
MovesIn w s es = Moves w (outbox_of s.history) (outbox_of (after_all s es).history) (jobs_in es) (reports_in es)

pub run_moves : (w : ℕ) (s : Start) (steps : List Step) (es : List Event) → IsBusRun s steps es → EndsWithin w (outbox_of s.history) → MovesIn w s es
unfolding jobs_in reports_in
run_moves w s [] [] run within = record { kept = sym (append-nil (outstanding_of (outbox_of s.history) w)); within = within }
run_moves w s [] (e ∷ es) run within = absurd run
run_moves w s (p ∷ ps) [] run within = absurd run
run_moves w s (p ∷ ps) (e ∷ es) run within =
    let one = event_moves w s p e run.0 within in
    let more = run_moves w (after s e) ps es run.1 one.within in
    let ws : Choice = (outbox_of s.history).workers in
    let last : List Job = outstanding_of (outbox_of (after_all s (e ∷ es)).history) w in
    let middle : List Job = outstanding_of (outbox_of (after s e).history) w in
    -- the choice is still the same
    let kept : done_by (reports_of ws w (reports_in es)) ++ last ≡ middle ++ jobs_of ws w (jobs_in es) =
    subst (λ (v : Choice). done_by (reports_of v w (reports_in es)) ++ last ≡ middle ++ jobs_of v w (jobs_in es)) (happens s p e run.0).workers more.kept in
    record {
      kept = ap (λ (l : List Job). l ++ last) (parts_done ws w (arrived_in e) (reports_in es))
          ∙ chain (done_by (reports_of ws w (arrived_in e))) (done_by (reports_of ws w (reports_in es))) last middle (outstanding_of (outbox_of s.history) w)
          (jobs_of ws w (started_in e)) (jobs_of ws w (jobs_in es)) one.kept kept
          ∙ ap (λ (l : List Job). outstanding_of (outbox_of s.history) w ++ l) (sym (filter-append (λ (j : Job). worker_at ws j.work == w) (started_in e) (jobs_in es)));
      within = more.within;
    }
