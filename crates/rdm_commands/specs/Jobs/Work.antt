-- Slow commands: which worker has the job, how long it takes at the devices of a profile, and which work is accepted. E1.20 section 6.3.3.
use Rattle.std.specs.Prelude.{◌≡◌, ℕ, true, [], ◌∷◌, Ok}
use Rattle.rdm_table.specs.declared.way.Way.{Way}
use Rattle.rdm_table.specs.declared.way.Way.TheVariants.{ByJob}
use Rattle.rdm_commands.specs.declared.jobs.work.Work.{Work}
use Rattle.rdm_profile.specs.declared.profile.estimates.Estimates.{Estimates}
use Rattle.rdm_profile.specs.declared.profile.workers.Workers.{Workers}
use Rattle.rdm_profile.specs.declared.profile.Profile.{Profile}
use Rattle.rdm_profile.specs.declared.value.Value.TheVariants.{Byte}
use Rattle.rdm_table.specs.Table.Rows.{command_of}
use Rattle.rdm_commands.specs.Commands.Commands.{accepted}
use Rattle.rdm_added.specs.Parameters.{Parameters}
use Rattle.rdm_table.specs.Table.Uses.{way_of, is_slow, worker_for, estimate_for}

abbrev pub worker_in : Workers → Way → ℕ
worker_in ws (ByJob slow) = worker_for ws slow
worker_in ws _ = 1

abbrev pub estimate_in : Estimates → Way → ℕ
estimate_in e (ByJob slow) = estimate_for e slow
estimate_in e _ = 0

-- A choice of workers, for crates that name nothing of rdm_device.
abbrev pub Choice : Type 0
Choice = Workers

-- the worker that has the job by this choice, and 1 if the work isn't a slow command
abbrev pub worker_at : Workers → Work → ℕ
worker_at ws w = worker_in ws (way_of (command_of w.pid w.verb))

-- how long the job takes by the estimates of a profile, in tenths of a second, and 0 if the work isn't a slow command
abbrev pub estimate_of : Profile → Work → ℕ
estimate_of p w = estimate_in p.particulars.estimates (way_of (command_of w.pid w.verb))

-- The work is a slow command that these devices accept.
pub record IsAccepted (p : Parameters) (w : Work) : Type 0 where
  pub slow : is_slow (command_of w.pid w.verb) ≡ true
  pub command : accepted p w.sub w.pid w.verb (w.arg ∷ []) ≡ Ok (Byte w.arg)
