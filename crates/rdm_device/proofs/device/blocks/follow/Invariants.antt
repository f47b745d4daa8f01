use Rattle.std.proofs.Common.{◌≡◌, map, drop}
use Rattle.rdm_device.specs.Device.Blocks.{sub_devices, follow}
use Rattle.rdm_added.specs.Views.State.{common_entries}
use Rattle.rdm_device.proofs.device.blocks.follow.Given as goal

-- all follow one another exactly if those from this one on follow those before it
abbrev pub invariant-loop-common : goal.invariant-loop-common
invariant-loop-common l =
    follow l.next (sub_devices l.profile (map common_entries (drop l.common-index l.subs))) ≡ follow l.base (sub_devices l.profile (map common_entries l.subs))
