use Rattle.std.proofs.Common.{◌≡◌, length, take, drop}
use Rattle.rdm_added.specs.Views.State.{sensor_entries}
use Rattle.rdm_saved.specs.SameProfile.{restored_device}
use Rattle.rdm_saved.proofs.restoring.restore_sensors.Given as goal

-- the sensors before this one are restored, and the others are as they were
abbrev pub invariant-loop-i : goal.invariant-loop-i
invariant-loop-i l = record {
  done : sensor_entries 0 (take l.i l.sensors) ≡ restored_device (sensor_entries 0 (take l.i l.initial.sensors)) l.bytes;
  others : drop l.i l.sensors ≡ drop l.i l.initial.sensors;
  count : length l.sensors ≡ length l.initial.sensors;
}
