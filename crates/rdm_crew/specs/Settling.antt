-- What all ends of the three lanes come to when the workers have ended.
use Rattle.std.specs.Prelude.{◌≡◌, ℕ, List, []}
use Rattle.rdm_outbox.specs.declared.job.Job.{Job}
use Rattle.rdm_responder.specs.declared.report.Report.{Report}
use Rattle.rdm_lane.specs.declared.taken.Taken.{Taken}
use Rattle.rdm_lane.specs.Ends.{PostState, TakeState, take_state, new_post}
use Rattle.rdm_lane.specs.Lane.{of, put_closed, IsPrefix}
use Rattle.rdm_crew.specs.declared.threads.worker.Worked.{Worked}
use Rattle.rdm_crew.specs.Workers.{most}

-- the two ends of a new lane with one post, which may put as many items
abbrev pub IsNewLaneOfOne : {T : Type 0} → ℕ → TakeState T → PostState T → Type 0
IsNewLaneOfOne limit take post = (take ≡ take_state take.lane 1 []) × (post ≡ new_post take.lane 0 limit)

-- the three ends of a new report lane
abbrev pub IsReportLane : TakeState Report → PostState Report → PostState Report → Type 0
IsReportLane reports first second =
    (reports ≡ take_state reports.lane 2 []) × (first ≡ new_post reports.lane 0 most) × (second ≡ new_post reports.lane 1 most)

-- The two ends of a lane with one post.
pub record IsLaneOfOne {T : Type 0} (take : TakeState T) (post : PostState T) : Type 0 where
  pub lane : post.lane ≡ take.lane
  pub producer : post.producer ≡ 0
  pub posts : take.posts ≡ 1

-- The report lane's three ends are of one lane, with posts 0 and 1.
pub record IsLaneOfReports (reports : TakeState Report) (first second : PostState Report) : Type 0 where
  pub first_lane : first.lane ≡ reports.lane
  pub second_lane : second.lane ≡ reports.lane
  pub first_producer : first.producer ≡ 0
  pub second_producer : second.producer ≡ 1
  pub posts : reports.posts ≡ 2

-- What was taken from a lane of what post p put, its mark included, is the first of it.
abbrev pub IsTakenOf : {T : Type 0} → ℕ → List (Taken T) → List T → Type 0
IsTakenOf p taken items = IsPrefix (of p taken) (put_closed p items)

-- The jobs and the reports of a worker, and what was taken of them.
pub record IsSettled (worker : ℕ) (post : PostState Job) (reports : TakeState Report) (w : Worked) : Type 0 where
  pub took : IsTakenOf 0 w.jobs.taken post.items
  pub sent : IsTakenOf worker reports.taken w.reports.items

-- All ends of the three lanes: of the report lane and of both job lanes those that the bus thread has, and of each worker
-- that of its job lane and its post of the report lane.
pub record AreLanes (taker : TakeState Report) (first_post second_post : PostState Job) (first_jobs : TakeState Job) (first_reports : PostState Report) (second_jobs : TakeState Job) (second_reports : PostState Report) : Type 0 where
  pub first : IsLaneOfOne first_jobs first_post
  pub second : IsLaneOfOne second_jobs second_post
  pub reports : IsLaneOfReports taker first_reports second_reports
