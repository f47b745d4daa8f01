use Rattle.std.specs.Prelude.{min}
use Rattle.std.proofs.Common.{◌≡◌, ◌-◌, ◌^◌, take}
use Rattle.rdm_addresses.specs.Proposals.{behind}
use Rattle.rdm_addresses.proofs.proposing.behind.Given as goal

abbrev pub invariant-loop-device : goal.invariant-loop-device
invariant-loop-device l = l.next ≡ min (behind l.from l.gap (take l.device-index l.devices)) (2 ^ 64 - 1)
