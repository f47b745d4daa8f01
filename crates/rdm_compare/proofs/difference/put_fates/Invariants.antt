use Rattle.std.proofs.Common.{◌≡◌, ◌++◌, take}
use Rattle.std.specs.List.{flat_map}
use Rattle.rdm_compare.specs.Differences.{fate}
use Rattle.rdm_compare.proofs.difference.put_fates.Given as goal

abbrev pub invariant-loop-was : goal.invariant-loop-was
invariant-loop-was l = l.list.items ≡ l.fn.list.items ++ flat_map (fate l.now) (take l.was-index l.then)
