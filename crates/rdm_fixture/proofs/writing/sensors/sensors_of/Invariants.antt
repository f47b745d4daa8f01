use Rattle.std.proofs.Common.{take, IsTrue, All}
use Rattle.toml.specs.Data.{array}
use Rattle.toml.specs.View.{items_view}
use Rattle.rdm_fixture.specs.Describable.{are_printable}
use Rattle.rdm_fixture_keys.specs.Entries.{IsSensor}
use Rattle.rdm_fixture.specs.Lists.{EachIs, OfTable}
use Rattle.rdm_fixture.specs.OverTime.{IsCourse, AreCourses}
use Rattle.rdm_fixture.specs.Starting.{SaysPresent}
use Rattle.rdm_fixture.specs.Writing.{IsPlain}
use Rattle.rdm_fixture.proofs.writing.sensors.sensors_of.Given as goal

abbrev pub invariant-loop-n : goal.invariant-loop-n
invariant-loop-n l = record {
  sensors : All (λ s. IsTrue (are_printable s.name)) l.sensors → EachIs (OfTable IsSensor) (items_view l.entries.items) (take l.n l.sensors);
  presents : EachIs (OfTable SaysPresent) (items_view l.entries.items) (take l.n l.presents);
  courses : AreCourses l.courses l.sensors → EachIs (OfTable IsCourse) (items_view l.entries.items) (take l.n l.courses);
  plain : IsPlain 4 (array (items_view l.entries.items));
}
