use Rattle.std.proofs.Common.{◌≡◌, ◌++◌, take}
use Rattle.std.specs.List.{flat_map}
use Rattle.rdm_compare.specs.Differences.{arrival}
use Rattle.rdm_compare.proofs.difference.put_arrivals.Given as goal

abbrev pub invariant-loop-is : goal.invariant-loop-is
invariant-loop-is l = l.list.items ≡ l.fn.list.items ++ flat_map (arrival l.then) (take l.is-index l.now)
