use Rattle.std.proofs.Common.{◌≡◌, ◌++◌, length}
use Rattle.std.specs.Prelude.{option_map}
use Rattle.json.specs.Value.{items_view}
use Rattle.rdm_compare.specs.Reading.{subs_in}
use Rattle.rdm_compare.proofs.fixture_reading.subs_in.Given as goal

abbrev pub invariant-loop-rest : goal.invariant-loop-rest
invariant-loop-rest l = subs_in (items_view l.items) ≡ option_map (λ more. l.list.items ++ more) (subs_in (items_view l.rest))

abbrev pub decreases-loop-rest : goal.decreases-loop-rest
decreases-loop-rest l = length l.rest
