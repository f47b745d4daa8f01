use Rattle.std.proofs.Common.{◌≡◌, length, take, cond}
use Rattle.rdm_device.specs.Columns.Changes.{sensor_change, reset, record_present}
use Rattle.rdm_added.specs.Map.{update}
use Rattle.rdm_added.specs.Views.State.{sensor_entries}
use Rattle.rdm_device.proofs.columns.changes.changed.Given as goal

abbrev pub invariant-loop-i : goal.invariant-loop-i
invariant-loop-i l = record {
  changed : sensor_entries 0 l.after.items ≡ update (sensor_change (cond l.resets reset record_present) l.number) (sensor_entries 0 (take l.i l.sensors));
  as_many : length l.after.items ≡ l.i;
}
