-- A job that started, as it is handed on.
use Rattle.std.specs.Prelude.{◌≡◌, ℕ, Option, option_map, slice_get}
use Rattle.rdm_profile.specs.declared.profile.Profile.{Profile}
use Rattle.rdm_params.specs.Jobs.Work.{Choice, worker_at, estimate_of}
use Rattle.rdm_outbox.specs.declared.job.Job.{Job}
use Rattle.rdm_outbox.specs.Jobs.{outstanding_of}
use Rattle.rdm_responder.specs.declared.stepped.Started.{Started}
use Rattle.rdm_responder.specs.History.{History}
use Rattle.rdm_responder.specs.Rules.{account_of}
use Rattle.rdm_responder.specs.Runs.{outbox_of}

-- the job by itself
abbrev pub job_in : Option Started → Option Job
job_in started = option_map (λ s. s.job) started

-- The worker and the estimate are those that devices of this profile have for the job's command. Section 6.3.3.
abbrev pub IsAsInProfile : Profile → Started → Type 0
IsAsInProfile p s = (s.worker ≡ worker_at p.workers s.job.work) × (s.estimate ≡ estimate_of p s.job.work)

-- The worker is the one that has the job by this choice.
abbrev pub IsForItsWorker : Choice → Started → Type 0
IsForItsWorker ws s = s.worker ≡ worker_at ws s.job.work

-- a job as devices of this profile tell of it
abbrev pub started_with : Profile → Job → Started
started_with p job = record { job = job; worker = worker_at p.workers job.work; estimate = estimate_of p job.work }

-- The job that a worker is at: the oldest of those that are outstanding.
abbrev pub working_at : History → ℕ → Option Started
working_at h worker = option_map (started_with (account_of h).parameters.profile) (slice_get (outstanding_of (outbox_of h) worker) 0)
