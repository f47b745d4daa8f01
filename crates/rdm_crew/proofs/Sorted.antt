-- What was drawn of both workers, sorted by the worker that sent it.
use Rattle.std.proofs.Common.{◌≡◌, ◌≢◌, ◌<◌, ◌==◌, ℕ, zero, suc, Bool, true, false, cond, List, [], ◌∷◌, ◌++◌, filter, Some, slice_get, refl, sym, ◌∙◌, ap, subst, ⊎_elim}
use Rattle.std.proofs.lemmas.Bool.Decides.{eqb_tells}
use Rattle.rdm_commands.specs.declared.jobs.outcome.Outcome.{Outcome}
use Rattle.rdm_params.specs.Jobs.Work.{Choice, worker_at}
use Rattle.rdm_outbox.specs.declared.job.Job.{Job}
use Rattle.rdm_outbox.specs.Jobs.{jobs_of}
use Rattle.rdm_responder.specs.declared.report.Report.{Report}
use Rattle.rdm_lane.specs.declared.taken.Taken.{Taken}
use Rattle.rdm_lane.specs.declared.taken.Taken.TheVariants.{Item, Mark, Empty, Closed}
use Rattle.rdm_lane.specs.Lane.{is_from, items_of, items_from}
use Rattle.rdm_crew.specs.Desks.{OfTwo}
use Rattle.rdm_bus.specs.Happened.{reports_of}
use Rattle.rdm_crew.specs.Workers.{Answers, AnswersAfter}

-- the items of p of a list that begins with one of q
cons-item : (p q n : ℕ) (r : Report) (es : List (Taken Report)) → items_from p (Item q n r ∷ es) ≡ cond (q == p) (r ∷ items_from p es) (items_from p es)
unfolding items_of
cons-item p q n r es = elim (q == p) as (λ b. items_of (cond b (Item q n r ∷ filter (is_from p) es) (filter (is_from p) es)) ≡ cond b (r ∷ items_from p es) (items_from p es)) [ true ↦ refl | false ↦ refl ]

cons-mark : (p q : ℕ) (m : Taken Report) (es : List (Taken Report)) → m ≡ Mark q → items_from p (m ∷ es) ≡ items_from p es
unfolding items_of
cons-mark p q m es e = subst (λ k. items_from p (k ∷ es) ≡ items_from p es) (sym e) (elim (q == p) as (λ b. items_of (cond b (Mark q ∷ filter (is_from p) es) (filter (is_from p) es)) ≡ items_from p es) [ true ↦ refl | false ↦ refl ])

eqb-same : (q : ℕ) → (q == q) ≡ true
eqb-same q = ⊎_elim (λ (y : ((q == q) ≡ true) × (q ≡ q)). y.0) (λ (n : ((q == q) ≡ false) × (q ≢ q)). absurd (n.1 refl)) (eqb_tells q q)

-- an item of worker p, and those after it
pub own_item : (p n : ℕ) (r : Report) (es : List (Taken Report)) → items_from p (Item p n r ∷ es) ≡ r ∷ items_from p es
own_item p n r es = cons-item p p n r es ∙ ap (λ b. cond b (r ∷ items_from p es) (items_from p es)) (eqb-same p)

-- ---- by one choice of workers

module _ (ws : Choice) where
  -- Each report is on a job of the worker that sent it.
  abbrev pub EachOwn : List (Taken Report) → Type 0
  EachOwn [] = Unit {0}
  EachOwn (Item q n r ∷ es) = (worker_at ws r.job.work ≡ q) × EachOwn es
  EachOwn (Mark q ∷ es) = EachOwn es
  EachOwn (Empty ∷ es) = EachOwn es
  EachOwn (Closed ∷ es) = EachOwn es

  -- these reports are all on jobs of worker p
  abbrev pub AreOn : ℕ → List Report → Type 0
  AreOn p [] = Unit {0}
  AreOn p (r ∷ rs) = (worker_at ws r.job.work ≡ p) × AreOn p rs

  -- sorted by the worker of their jobs, they are the items of that producer
  pub sorted : (p : ℕ) (es : List (Taken Report)) → EachOwn es → reports_of ws p (items_of es) ≡ items_from p es
  unfolding items_of
  sorted p [] own = refl
  sorted p (Item q n r ∷ es) own =
      ap (λ w. cond (w == p) (r ∷ reports_of ws p (items_of es)) (reports_of ws p (items_of es))) own.0
      ∙ ap (λ l. cond (q == p) (r ∷ l) l) (sorted p es own.1) ∙ sym (cons-item p q n r es)
  sorted p (Mark q ∷ es) own = sorted p es own ∙ sym (cons-mark p q (Mark q) es refl)
  sorted p (Empty ∷ es) own = sorted p es own
  sorted p (Closed ∷ es) own = sorted p es own

  -- what each producer sent is on its jobs: so is each report
  tail_on : (p : ℕ) (b : Bool) (r : Report) (rs : List Report) → AreOn p (cond b (r ∷ rs) rs) → AreOn p rs
  tail_on p true r rs on = on.1
  tail_on p false r rs on = on

  pub each_own : (es : List (Taken Report)) → OfTwo es → ((p : ℕ) → p < 2 → AreOn p (items_from p es)) → EachOwn es
  each_own [] two on = tt
  each_own (Item q n r ∷ es) two on =
      let mine : AreOn q (cond (q == q) (r ∷ items_from q es) (items_from q es)) = subst (AreOn q) (cons-item q q n r es) (on q two.0) in
      let first : AreOn q (r ∷ items_from q es) = subst (λ b. AreOn q (cond b (r ∷ items_from q es) (items_from q es))) (eqb-same q) mine in
      (first.0, each_own es two.1 (λ p below. tail_on p (q == p) r (items_from p es) (subst (AreOn p) (cons-item p q n r es) (on p below))))
  each_own (Mark q ∷ es) two on = each_own es two (λ p below. subst (AreOn p) (cons-mark p q (Mark q) es refl) (on p below))
  each_own (Empty ∷ es) two on = each_own es two on
  each_own (Closed ∷ es) two on = each_own es two on

  -- What was drawn of both, whose reports have all arrived: those of p are the reports of worker p that arrived.
  pub of_worker : (p : ℕ) (taken : List (Taken Report)) (arrived : List Report) → EachOwn taken → items_of taken ≡ arrived → items_from p taken ≡ reports_of ws p arrived
  of_worker p taken arrived own all = sym (sorted p taken own) ∙ ap (reports_of ws p) all

  -- ---- a worker's reports are on its jobs

  abbrev pub AreJobsOf : ℕ → List Job → Type 0
  AreJobsOf p [] = Unit {0}
  AreJobsOf p (j ∷ js) = (worker_at ws j.work ≡ p) × AreJobsOf p js

  one_more : (p : ℕ) (w : ℕ) (j : Job) (js : List Job) → w ≡ worker_at ws j.work → AreJobsOf p js → AreJobsOf p (cond (w == p) (j ∷ js) js)
  one_more p w j js same rest = ⊎_elim
      (λ (y : ((w == p) ≡ true) × (w ≡ p)). subst (λ b. AreJobsOf p (cond b (j ∷ js) js)) (sym y.0) (sym same ∙ y.1, rest))
      (λ (n : ((w == p) ≡ false) × (w ≢ p)). subst (λ b. AreJobsOf p (cond b (j ∷ js) js)) (sym n.0) rest)
      (eqb_tells w p)

  jobs_on : (p : ℕ) (js : List Job) → AreJobsOf p (jobs_of ws p js)
  jobs_on p [] = tt
  jobs_on p (j ∷ js) = one_more p (worker_at ws j.work) j (jobs_of ws p js) refl (jobs_on p js)

  front_jobs : (p : ℕ) (js more : List Job) → AreJobsOf p (js ++ more) → AreJobsOf p js
  front_jobs p [] more on = tt
  front_jobs p (j ∷ js) more on = (on.0, front_jobs p js more on.1)

  front_reports : (p : ℕ) (rs more : List Report) → AreOn p (rs ++ more) → AreOn p rs
  front_reports p [] more on = tt
  front_reports p (r ∷ rs) more on = (on.0, front_reports p rs more on.1)

  answers_on : (gives : List Job → Job → Outcome → Type 0) (before : List Job) (p : ℕ) (js : List Job) (rs : List Report) → AnswersAfter gives before js rs → AreJobsOf p js → AreOn p rs
  answers_on gives before p js [] answered on = tt
  answers_on gives before p [] (r ∷ rs) answered on = absurd answered
  answers_on gives before p (j ∷ js) (r ∷ rs) answered on = (ap (λ i. worker_at ws i.work) answered.0 ∙ on.0, answers_on gives (before ++ j ∷ []) p js rs answered.2 on.1)

  -- The reports that were drawn of worker p are on its jobs: it took a prefix of those that were put, all of them p's, and
  -- reported on them.
  pub reports_on : (gives : List Job → Job → Outcome → Type 0) (p : ℕ) (accepted taken more : List Job) (reports drawn rest : List Report) → Answers gives taken reports → taken ++ more ≡ jobs_of ws p accepted → drawn ++ rest ≡ reports → AreOn p drawn
  reports_on gives p accepted taken more reports drawn rest answered all parts =
      let mine : AreJobsOf p taken = front_jobs p taken more (subst (AreJobsOf p) (sym all) (jobs_on p accepted)) in
      front_reports p drawn rest (subst (AreOn p) (sym parts) (answers_on gives [] p taken reports answered mine))

  own_at : (p : ℕ) (js : List Job) (n : ℕ) (j : Job) → AreJobsOf p js → slice_get js n ≡ Some j → worker_at ws j.work ≡ p
  own_at p [] n j on at = absurd cc
  own_at p (i ∷ js) zero j on at = let same : i ≡ j = cc in ap (λ k. worker_at ws k.work) (sym same) ∙ on.0
  own_at p (i ∷ js) (suc n) j on at = own_at p js n j on.1 at

  -- a job at any place among those of worker p is worker p's
  pub own_job : (p : ℕ) (accepted : List Job) (n : ℕ) (j : Job) → slice_get (jobs_of ws p accepted) n ≡ Some j → worker_at ws j.work ≡ p
  own_job p accepted n j at = own_at p (jobs_of ws p accepted) n j (jobs_on p accepted) at
