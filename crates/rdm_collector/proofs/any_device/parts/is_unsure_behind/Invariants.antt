use Rattle.std.proofs.Common.{◌≡◌, drop}
use Rattle.rdm_collector.specs.AnyDevice.Parts.{is_unsure_behind}
use Rattle.rdm_collector.proofs.any_device.parts.is_unsure_behind.Given as goal

-- so far none was unsure, so that it is up to those that are left
abbrev pub invariant-loop-item : goal.invariant-loop-item
invariant-loop-item l = is_unsure_behind l.before (drop l.item-index l.others) ≡ is_unsure_behind l.fn.first l.others
