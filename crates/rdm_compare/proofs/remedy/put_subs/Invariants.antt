use Rattle.std.proofs.Common.{◌≡◌, ◌++◌, take}
use Rattle.std.specs.List.{flat_map}
use Rattle.rdm_compare.specs.Remedies.{sub_remedy}
use Rattle.rdm_compare.proofs.remedy.put_subs.Given as goal

abbrev pub invariant-loop-sub : goal.invariant-loop-sub
invariant-loop-sub l = l.list.items ≡ l.fn.list.items ++ flat_map (sub_remedy l.fixture.0 l.fixture.1 l.now) (take l.sub-index l.then)
