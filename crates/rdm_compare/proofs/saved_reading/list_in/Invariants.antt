use Rattle.std.proofs.Common.{◌≡◌, ◌+◌, ◌++◌, length}
use Rattle.json.specs.Value.{items_view}
use Rattle.rdm_compare.specs.Reading.{behind, list_in}
use Rattle.rdm_compare.proofs.saved_reading.list_in.Given as goal

abbrev pub invariant-loop-rest : goal.invariant-loop-rest
invariant-loop-rest l = list_in 1 (items_view l.items) ≡ behind l.list.items (list_in (length l.list.items + 1) (items_view l.rest))

abbrev pub decreases-loop-rest : goal.decreases-loop-rest
decreases-loop-rest l = length l.rest
