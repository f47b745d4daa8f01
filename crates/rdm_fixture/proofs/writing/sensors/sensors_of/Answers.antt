use Rattle.std.proofs.Common.{◌≡◌, ◌<◌, take, sym, arith, length, rules}
use Rattle.std.proofs.lemmas.List.{take_all}
use Rattle.toml.proofs.Views.{view-Array}
use Rattle.rdm_fixture_keys.specs.Entries.{IsSensor}
use Rattle.rdm_fixture.specs.OverTime.{IsCourse}
use Rattle.rdm_fixture.specs.Starting.{SaysPresent}
use Rattle.rdm_fixture.proofs.WrittenLists.{entry_more, plain_more}
use Rattle.rdm_fixture.proofs.writing.sensors.sensors_of.Goals as goal

pub returns-clause-sensors : goal.returns-clause-sensors
returns-clause-sensors c = λ can.
    let whole : take c.loop-n.n c.args.sensors.now ≡ c.args.sensors.now = take_all _ _ (omega (arith, c.loop-n-test.false)) in
    rw (view-Array c.loop-n.entries) (rw whole at (c.loop-n.invariant.sensors can))

pub returns-clause-presents : goal.returns-clause-presents
returns-clause-presents c =
    let whole : take c.loop-n.n c.args.presents.now ≡ c.args.presents.now = take_all _ _ (omega (arith, c.loop-n-test.false, c.requires.presents)) in
    rw (view-Array c.loop-n.entries) (rw whole at c.loop-n.invariant.presents)

pub returns-clause-courses : goal.returns-clause-courses
returns-clause-courses c = λ can.
    let whole : take c.loop-n.n c.args.courses.now ≡ c.args.courses.now = take_all _ _ (omega (arith, c.loop-n-test.false, c.requires.courses)) in
    rw (view-Array c.loop-n.entries) (rw whole at (c.loop-n.invariant.courses can))

pub loop-n-preserved : goal.loop-n-preserved
loop-n-preserved c =
    let less : c.loop-n.n < length c.args.sensors.now = search rules in
    let fewer : c.loop-n.n < length c.args.presents.now = omega (arith, less, c.requires.presents) in
    let within : c.loop-n.n < length c.args.courses.now = omega (arith, less, c.requires.courses) in
    record {
      sensors = λ can.
          rw c.in_ok-push.ensures.items
          (entry_more IsSensor c.loop-n.entries.items c.in_ok-table.table c.args.sensors.now c.loop-n.n c.index-sensors-n.result
          less (sym c.index-sensors-n.is) (c.loop-n.invariant.sensors can)
          (c.in_ok-table.ensures.sensor (rw c.index-sensors-n.is (can c.loop-n.n c.index-sensors-n.result less))));
      presents = rw c.in_ok-push.ensures.items
          (entry_more SaysPresent c.loop-n.entries.items c.in_ok-table.table c.args.presents.now c.loop-n.n _
          fewer (search rules) c.loop-n.invariant.presents c.in_ok-table.ensures.present);
      courses = λ can.
          rw c.in_ok-push.ensures.items
          (entry_more IsCourse c.loop-n.entries.items c.in_ok-table.table c.args.courses.now c.loop-n.n c.index-courses-n.result
          within (sym c.index-courses-n.is) (c.loop-n.invariant.courses can)
          (c.in_ok-table.ensures.course (rw (c.index-courses-n.is, c.index-sensors-n.is) (can.fit c.loop-n.n c.index-courses-n.result c.index-sensors-n.result within))));
      plain = rw c.in_ok-push.ensures.items (plain_more 3 c.loop-n.entries.items c.in_ok-table.table c.loop-n.invariant.plain c.in_ok-table.ensures.plain);
    }
