use Rattle.std.proofs.Common.{◌≡◌, map, drop}
use Rattle.std.specs.Prelude.{find}
use Rattle.rdm_device.specs.Device.Blocks.{sub_devices, has_slots}
use Rattle.rdm_added.specs.Views.State.{common_entries}
use Rattle.rdm_device.proofs.device.blocks.first_start.Given as goal

-- the first of the sub-devices from this one on is the first of all
abbrev pub invariant-loop-common : goal.invariant-loop-common
invariant-loop-common l =
    find has_slots (sub_devices l.profile (map common_entries (drop l.common-index l.subs))) ≡ find has_slots (sub_devices l.profile (map common_entries l.subs))
