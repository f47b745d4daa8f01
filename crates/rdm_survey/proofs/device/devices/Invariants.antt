use Rattle.std.proofs.Common.{◌≡◌, take}
use Rattle.std.specs.List.{flat_map}
use Rattle.rdm_survey.specs.Places.{devices_of}
use Rattle.rdm_survey.proofs.device.devices.Given as goal

abbrev pub invariant-loop-row : goal.invariant-loop-row
invariant-loop-row l = l.list.items ≡ flat_map devices_of (take l.row-index l.rows)
