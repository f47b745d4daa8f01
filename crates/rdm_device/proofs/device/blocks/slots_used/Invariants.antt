use Rattle.std.proofs.Common.{◌≡◌, ◌≤◌, ◌+◌, map, drop}
use Rattle.std.specs.Prelude.{min}
use Rattle.rdm_device.specs.Device.Blocks.{sub_devices, total}
use Rattle.rdm_added.specs.Views.State.{common_entries}
use Rattle.rdm_device.proofs.device.blocks.slots_used.Given as goal

-- with those of the sub-devices from this one on they are those of all, as far as two slots can say
abbrev pub invariant-loop-common : goal.invariant-loop-common
invariant-loop-common l = record {
  all : min (l.total + total (sub_devices l.profile (map common_entries (drop l.common-index l.subs)))) 0xFFFF ≡ min (total (sub_devices l.profile (map common_entries l.subs))) 0xFFFF;
  few : l.total ≤ 0xFFFF;
}
