-- The law over the four lists of a worker: the jobs that were put, those that it took, its reports, and those reports that
-- were drawn. What was taken is a prefix of what was put, and what was drawn a prefix of the reports.
use Rattle.std.specs.Prelude.{◌≡◌, ℕ, ◌+◌, ◌≤◌, Bool, true, false, List, ◌∷◌, ◌++◌, length, take, Some, slice_get}
use Rattle.rdm_commands.specs.declared.jobs.outcome.Outcome.{Outcome}
use Rattle.rdm_outbox.specs.declared.job.Job.{Job}
use Rattle.rdm_responder.specs.declared.report.Report.{Report}
use Rattle.rdm_lane.specs.Lane.{IsPrefix}
use Rattle.rdm_crew.specs.Workers.{Answers}

-- No report goes astray: the next one drawn is on the oldest job that was put and isn't reported on yet, and its outcome
-- may be given for it after the jobs before it.
abbrev pub NoneAstray : (List Job → Job → Outcome → Type 0) → Type 0
NoneAstray gives =
    (put taken : List Job) (reports drawn : List Report) → Answers gives taken reports
    → (more : List Job) → taken ++ more ≡ put → (r : Report) (rest : List Report) → drawn ++ r ∷ rest ≡ reports
    → (slice_get put (length drawn) ≡ Some r.job) × gives (take (length drawn) put) r.job r.outcome

-- What the two lanes and the worker bring about, however long each of them was at work. The jobs that were taken are the
-- first that were put, and all of them if the mark of the job lane was taken. The reports are on the jobs that were taken,
-- one by one, each with an outcome that may be given for its job, save perhaps on the last one, and that only if the
-- worker's memory was refused. The reports that were drawn are the first of them, and all if the worker's mark was drawn.
pub record FourLists (gives : List Job → Job → Outcome → Type 0) (put taken : List Job) (reports drawn : List Report) (all_taken all_drawn refused : Bool) : Type 0 where
  pub took : IsPrefix taken put
  pub took_all : all_taken ≡ true → taken ≡ put
  pub answers : Answers gives taken reports
  pub save_one : length taken ≤ length reports + 1
  pub each : refused ≡ false → length taken ≡ length reports
  pub drew : IsPrefix drawn reports
  pub drew_all : all_drawn ≡ true → drawn ≡ reports

-- what holds of the four lists of a worker, and of the two marks and of whether its memory was refused
abbrev pub OverFourLists : (List Job → Job → Outcome → Type 0) → (List Job → List Report → Bool → Bool → Bool → Type 0) → Type 0
OverFourLists gives Holds =
    (put taken : List Job) (reports drawn : List Report) (all_taken all_drawn refused : Bool)
    → FourLists gives put taken reports drawn all_taken all_drawn refused → Holds put drawn all_taken all_drawn refused

-- The n-th report that was drawn is on the n-th job that was put, and its outcome may be given for it after the jobs before it.
abbrev pub EachIsOnItsJob : (List Job → Job → Outcome → Type 0) → Type 0
EachIsOnItsJob gives =
    OverFourLists gives (λ put drawn all_taken all_drawn refused.
    (n : ℕ) (r : Report) → slice_get drawn n ≡ Some r → (slice_get put n ≡ Some r.job) × gives (take n put) r.job r.outcome)

-- No report is missing: if both marks were taken and no memory was refused, what was drawn is one report on each job that
-- was put, in order.
abbrev pub NoneMissing : (List Job → Job → Outcome → Type 0) → Type 0
NoneMissing gives =
    OverFourLists gives (λ put drawn all_taken all_drawn refused.
    all_taken ≡ true → all_drawn ≡ true → refused ≡ false → Answers gives put drawn × (length put ≡ length drawn))

-- If memory was refused, the last job at most is without a report.
abbrev pub OneMissingAtMost : (List Job → Job → Outcome → Type 0) → Type 0
OneMissingAtMost gives =
    OverFourLists gives (λ put drawn all_taken all_drawn refused.
    all_taken ≡ true → all_drawn ≡ true → Answers gives put drawn × (length put ≤ length drawn + 1))
