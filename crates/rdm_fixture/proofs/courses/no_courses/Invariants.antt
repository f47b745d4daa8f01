use Rattle.std.proofs.Common.{◌≡◌, map, take}
use Rattle.rdm_courses.specs.Courses.{no_course}
use Rattle.rdm_fixture.proofs.courses.no_courses.Given as goal

abbrev pub invariant-loop-sensor : goal.invariant-loop-sensor
invariant-loop-sensor l = l.courses.items ≡ map (λ s. no_course) (take l._sensor-index l.sensors.items)
