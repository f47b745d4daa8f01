use Rattle.std.proofs.Common.{◌≡◌, ◌++◌, take}
use Rattle.std.specs.List.{flat_map}
use Rattle.rdm_survey.specs.Places.{sub_device}
use Rattle.rdm_survey.proofs.device.put_sub_devices.Given as goal

abbrev pub invariant-loop-sub : goal.invariant-loop-sub
invariant-loop-sub l = l.list.items ≡ l.fn.list.items ++ flat_map (sub_device l.uid) (take l.sub-index l.subs)
