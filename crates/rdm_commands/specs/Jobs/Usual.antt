-- How long slow commands take, and who carries them out, where a profile says nothing else.
use Rattle.std.specs.Prelude.{ℕ}
use Rattle.rdm_profile.specs.Estimates.{usual}
use Rattle.rdm_profile.specs.Workers.{usual_workers}
use Rattle.rdm_commands.specs.declared.jobs.work.Work.{Work}
use Rattle.rdm_table.specs.Table.Rows.{command_of}
use Rattle.rdm_commands.specs.Jobs.Work.{estimate_in, worker_at}
use Rattle.rdm_table.specs.Table.Uses.{way_of}

-- how long the job takes by the usual estimates, in tenths of a second, and 0 if the work isn't a slow command
abbrev pub usual_estimate_of : Work → ℕ
usual_estimate_of w = estimate_in usual (way_of (command_of w.pid w.verb))

-- the worker that has the job by the usual choice, and 1 if the work isn't a slow command
abbrev pub worker_of : Work → ℕ
worker_of w = worker_at usual_workers w
