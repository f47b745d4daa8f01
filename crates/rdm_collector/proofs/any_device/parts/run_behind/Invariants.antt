use Rattle.std.proofs.Common.{◌≡◌, ◌+◌, drop}
use Rattle.rdm_collector.specs.AnyDevice.Parts.{run_behind}
use Rattle.rdm_collector.proofs.any_device.parts.run_behind.Given as goal

-- with those that are left, all that go on are counted
abbrev pub invariant-loop-index : goal.invariant-loop-index
invariant-loop-index l = l.index + run_behind l.before (drop l.index l.others) ≡ run_behind l.fn.first l.others
