-- What a command answers, in two parts.
use Rattle.std.specs.Prelude.{◌≡◌, ℕ, List}
use Rattle.rdm_profile.specs.declared.profile.Profile.{Profile}
use Rattle.rdm_commands.specs.declared.verdict.Answer.{Answer}
use Rattle.rdm_commands.specs.declared.verdict.Answer.TheVariants.{Done, Starts, Queues, Statuses, Clears, Refused}
use Rattle.rdm_commands.specs.declared.verdict.Verdict.{Verdict}
use Rattle.rdm_commands.specs.declared.verdict.Verdict.TheVariants.{Reply, Start, Queue, Status, Clear, Refuse}
use Rattle.rdm_commands.specs.Jobs.Work.{worker_at, estimate_of}

-- an answer with the data of its reply; one that isn't a reply has none
abbrev pub verdict_with : Answer → List ℕ → Verdict
verdict_with Done body = Reply body
verdict_with (Starts work worker estimate) body = Start work
verdict_with (Queues ask) body = Queue ask
verdict_with (Statuses ask) body = Status ask
verdict_with Clears body = Clear
verdict_with (Refused nack) body = Refuse nack

-- the worker and the estimate that an answer names beside its work are those of the work, at the devices of this profile
abbrev pub NamesItsJob : Profile → Answer → Type 0
NamesItsJob p (Starts work worker estimate) = (worker ≡ worker_at p.workers work) × (estimate ≡ estimate_of p work)
NamesItsJob p _ = Unit {0}
