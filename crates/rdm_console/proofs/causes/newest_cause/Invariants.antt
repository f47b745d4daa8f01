use Rattle.std.proofs.Common.{◌≡◌, ◌/◌, ◌≤◌, length}
use Rattle.rdm_console.specs.Endings.{newest_cause}
use Rattle.rdm_console.proofs.causes.newest_cause.Given as goal

-- those behind it say nothing of it
abbrev pub invariant-loop-count : goal.invariant-loop-count
invariant-loop-count l = record {
  same : newest_cause l.sub l.body l.count ≡ newest_cause l.sub l.body (length l.body / 9);
  within : l.count ≤ length l.body / 9;
}

abbrev pub decreases-loop-count : goal.decreases-loop-count
decreases-loop-count l = l.count
