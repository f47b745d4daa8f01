use Rattle.std.proofs.Common.{◌≡◌, replicate}
use Rattle.rdm_added.proofs.SensorStarts.{unmeasured}
use Rattle.rdm_added.proofs.state.RootValues.sensors_at_start.Given as goal

abbrev pub invariant-loop : goal.invariant-loop
invariant-loop l = l.measured.items ≡ replicate l.counter unmeasured
