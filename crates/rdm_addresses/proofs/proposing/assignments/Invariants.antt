use Rattle.std.proofs.Common.{◌≡◌, take}
use Rattle.rdm_addresses.specs.Proposals.{assignments, behind}
use Rattle.rdm_addresses.proofs.proposing.assignments.Given as goal

abbrev pub invariant-loop-device : goal.invariant-loop-device
invariant-loop-device l = record {
  list : l.list.items ≡ assignments l.from l.gap (take l.device-index l.devices);
  next : l.next ≡ behind l.from l.gap (take l.device-index l.devices);
}
