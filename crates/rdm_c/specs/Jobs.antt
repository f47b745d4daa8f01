-- Jobs as the numbers that C has of them.
use Rattle.std.specs.Prelude.{◌≡◌, ℕ, ◌==◌, if◌then◌else◌, Option, Some, None}
use Rattle.std.specs.Option.{option_map}
use Rattle.rdm_profile.specs.declared.profile.Profile.{Profile}
use Rattle.rdm_table.specs.declared.kind.Verb.{Verb}
use Rattle.rdm_table.specs.declared.kind.Verb.TheVariants.{Get, Set}
use Rattle.rdm_params.specs.Jobs.Work.{worker_at, estimate_of}
use Rattle.rdm_outbox.specs.declared.job.Job.{Job}
use Rattle.rdm_c.specs.declared.job.JobNumbers.{JobNumbers}
use Rattle.rdm_c.specs.declared.job.SteppedNumbers.{SteppedNumbers}

-- The command class of each command, and back. E1.20 table A-1.
abbrev pub class_of : Verb → ℕ
class_of Get = 0x20
class_of Set = 0x30

abbrev pub verb_in : ℕ → Option Verb
verb_in class = if class == 0x20 then Some Get else if class == 0x30 then Some Set else None

-- the numbers of a job at the devices of a profile
abbrev pub numbers_of : Profile → Job → JobNumbers
numbers_of p job = record {
  number = job.number;
  estimate = estimate_of p job.work;
  sub = job.work.sub;
  pid = job.work.pid;
  command_class = class_of job.work.verb;
  argument = job.work.arg;
  worker = worker_at p.workers job.work;
}

-- the estimate and the worker of numbers are those that devices of this profile have for the command of a job
abbrev pub IsAsTold : Profile → JobNumbers → Job → Type 0
IsAsTold p n job = (n.estimate ≡ estimate_of p job.work) × (n.worker ≡ worker_at p.workers job.work)

-- The job that numbers stand for, if the command class is one of the two. The estimate and the worker follow from the
-- rest, and are compared by `IsAsTold`.
abbrev pub job_with : JobNumbers → Verb → Job
job_with n verb = record { number = n.number; work = record { sub = n.sub; pid = n.pid; verb = verb; arg = n.argument } }

abbrev pub job_in : JobNumbers → Option Job
job_in n = option_map (job_with n) (verb_in n.command_class)

-- the numbers of the job that started, if C is told of one
abbrev pub started_in : SteppedNumbers → Option JobNumbers
started_in s = if s.started == 1 then Some s.job else None
