-- The two workers, and which of them carries out which slow commands where a profile says nothing else.
use Rattle.std.specs.Prelude.{ℕ}
use Rattle.rdm_profile.specs.declared.profile.workers.Worker.{Worker}
use Rattle.rdm_profile.specs.declared.profile.workers.Worker.TheVariants.{First, Second}
use Rattle.rdm_profile.specs.declared.profile.workers.Workers.{Workers}

-- the number of a worker
abbrev pub worker_number : Worker → ℕ
worker_number First = 0
worker_number Second = 1

abbrev pub usual_workers : Workers
usual_workers = record { lamp = First; power = First; self_test = Second; sensor = Second }
