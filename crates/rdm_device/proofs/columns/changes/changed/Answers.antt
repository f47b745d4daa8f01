use Rattle.std.proofs.Common.{arith, cond, get_or}
use Rattle.std.proofs.lemmas.List.{length_push, get_or_default}
use Rattle.rdm_added.specs.declared.state.Measured.{Measured}
use Rattle.rdm_device.specs.Columns.Changes.{sensor_change, reset, record_present}
use Rattle.rdm_device.proofs.Sensors.{changed_more}
use Rattle.rdm_device.proofs.columns.changes.changed.Goals as goal

pub loop-i-preserved : goal.loop-i-preserved
loop-i-preserved c =
    let after = c.loop-i.after.items in
    let y = c.changed_at.result in
    let x : Measured = get_or c.args.sensors.now c.loop-i.i y in
    record {
      changed = rw c.push.ensures.items (changed_more (sensor_change (cond c.args.resets reset record_present) c.args.number) after c.args.sensors.now c.loop-i.i x y c.loop-i.invariant.changed c.loop-i.invariant.as_many c.loop-i-test.true (get_or_default c.args.sensors.now c.loop-i.i y x c.loop-i-test.true) (c.changed_at.ensures y));
      as_many = rw c.push.ensures.items (omega (arith, length_push after y, c.loop-i.invariant.as_many));
    }
