use Rattle.std.proofs.Common.{◌≡◌, ◌↔◌, drop}
use Rattle.rdm_added.specs.Views.State.{sensor_entries}
use Rattle.rdm_device.proofs.columns.changes.are_same.Given as goal

-- the sensors before this one are the same
abbrev pub invariant-loop-i : goal.invariant-loop-i
invariant-loop-i l =
    (sensor_entries l.i (drop l.i l.after) ≡ sensor_entries l.i (drop l.i l.before)) ↔ (sensor_entries 0 l.after ≡ sensor_entries 0 l.before)
