-- What a worker makes of its jobs: one report on each, in order.
use Rattle.std.specs.Prelude.{◌≡◌, ◌≤◌, ◌+◌, ℕ, false, List, [], ◌∷◌, ◌++◌, length}
use Rattle.rdm_commands.specs.declared.jobs.outcome.Outcome.{Outcome}
use Rattle.rdm_outbox.specs.declared.job.Job.{Job}
use Rattle.rdm_responder.specs.declared.report.Report.{Report}
use Rattle.rdm_lane.specs.Ends.{PostState, TakeState, IsOver, IsSameTake, IsSamePost}
use Rattle.rdm_lane.specs.Lane.{items_from}
use Rattle.rdm_crew.specs.declared.threads.worker.Worked.{Worked}

-- What a part may give for a job that comes after these: an outcome that it may give for the job at all, and may give then.
abbrev pub in_turn : {P : Type 0} → (P → Job → Outcome → Type 0) → (P → List Job → Job → Outcome → Type 0) → P → List Job → Job → Outcome → Type 0
in_turn gives gives_after part before job outcome = gives part job outcome × gives_after part before job outcome

-- After these jobs there are more, and the reports are on the first of them, one by one, each with an outcome that may be given for its
-- job after all jobs before it.
abbrev pub AnswersAfter : (List Job → Job → Outcome → Type 0) → List Job → List Job → List Report → Type 0
AnswersAfter gives before jobs [] = Unit {0}
AnswersAfter gives before [] (r ∷ rs) = ⊥
AnswersAfter gives before (j ∷ js) (r ∷ rs) = (r.job ≡ j) × gives before j r.outcome × AnswersAfter gives (before ++ j ∷ []) js rs

-- The reports are on the first of the jobs, from the first that there was.
abbrev pub Answers : (List Job → Job → Outcome → Type 0) → List Job → List Report → Type 0
Answers gives jobs reports = AnswersAfter gives [] jobs reports

-- how many reports a post may put
abbrev pub most : ℕ
most = 4294967295

-- The ends of a worker before it begins: of a job lane with one post, and a post of the report lane.
pub record IsIdle (jobs : TakeState Job) (reports : PostState Report) : Type 0 where
  pub one_post : jobs.posts ≡ 1
  pub none_taken : jobs.taken ≡ []
  pub none_put : reports.items ≡ []
  pub limit : reports.limit ≡ most

-- What a worker leaves: a report on each job that it took, in order, save perhaps on the last. If its memory wasn't
-- refused, it took all jobs that there were and reported on each.
pub record IsWorked (gives : List Job → Job → Outcome → Type 0) (jobs : TakeState Job) (reports : PostState Report) (w : Worked) : Type 0 where
  pub take : IsSameTake jobs w.jobs
  pub post : IsSamePost reports w.reports
  pub answers : Answers gives (items_from 0 w.jobs.taken) w.reports.items
  pub save_one : length (items_from 0 w.jobs.taken) ≤ length w.reports.items + 1
  pub all : w.refused ≡ false → IsOver w.jobs × (length (items_from 0 w.jobs.taken) ≡ length w.reports.items)

-- A worker at work: a report on each job that it has taken.
pub record IsWorking (gives : List Job → Job → Outcome → Type 0) (jobs : TakeState Job) (reports : PostState Report) (taken : TakeState Job) (put : PostState Report) : Type 0 where
  pub take : IsSameTake jobs taken
  pub post : IsSamePost reports put
  pub one_post : jobs.posts ≡ 1
  pub limit : reports.limit ≡ most
  pub answers : Answers gives (items_from 0 taken.taken) put.items
  pub each : length (items_from 0 taken.taken) ≡ length put.items
