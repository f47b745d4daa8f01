use Rattle.std.proofs.Common.{◌≡◌, ◌++◌, length}
use Rattle.std.specs.Option.{option_map}
use Rattle.rdm_health.specs.Statuses.{status_entries_in}
use Rattle.rdm_health.proofs.statuses.status_entries_in.Given as goal

-- those so far, and those of the rest
abbrev pub invariant-loop-rest : goal.invariant-loop-rest
invariant-loop-rest l = option_map (λ more. l.list.items ++ more) (status_entries_in l.rest) ≡ status_entries_in l.slots

abbrev pub decreases-loop-rest : goal.decreases-loop-rest
decreases-loop-rest l = length l.rest
