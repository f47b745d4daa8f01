use Rattle.std.proofs.Common.{◌≡◌, ◌++◌, take}
use Rattle.std.specs.List.{flat_map}
use Rattle.rdm_compare.specs.Differences.{sub_arrival}
use Rattle.rdm_compare.proofs.difference.put_sub_arrivals.Given as goal

abbrev pub invariant-loop-is : goal.invariant-loop-is
invariant-loop-is l = l.list.items ≡ l.fn.list.items ++ flat_map (sub_arrival l.uid l.then) (take l.is-index l.now)
