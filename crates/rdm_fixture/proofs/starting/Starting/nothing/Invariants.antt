use Rattle.std.proofs.Common.{◌≡◌, None, map, take}
use Rattle.rdm_fixture.proofs.starting.Starting.nothing.Given as goal

abbrev pub invariant-loop-sensor : goal.invariant-loop-sensor
invariant-loop-sensor l = l.presents.items ≡ map (λ s. None) (take l._sensor-index l.sensors.items)
