use Rattle.std.proofs.Common.{◌≡◌, ◌++◌, drop}
use Rattle.rdm_collector.specs.AnyDevice.Parts.{data_behind}
use Rattle.rdm_collector.proofs.any_device.parts.append_data.Given as goal

-- with the data of what is left, all are there
abbrev pub invariant-loop-item : goal.invariant-loop-item
invariant-loop-item l =
    l.bytes.items ++ data_behind l.before (drop l.item-index l.others) ≡ l.fn.bytes.items ++ (l.fn.first.message.body ++ data_behind l.fn.first l.others)
