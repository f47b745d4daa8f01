use Rattle.std.proofs.Common.{◌≡◌, ◌++◌, map, take}
use Rattle.rdm_survey.specs.Places.{place_of}
use Rattle.rdm_survey.proofs.clashing.put_places.Given as goal

abbrev pub invariant-loop-device : goal.invariant-loop-device
invariant-loop-device l = l.list.items ≡ l.fn.list.items ++ map place_of (take l.device-index l.devices)
