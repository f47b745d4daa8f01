use Rattle.std.proofs.Common.{◌≡◌, ◌++◌, length}
use Rattle.rdm_health.specs.StatusTable.{filled}
use Rattle.rdm_health.proofs.status_words.put_filled.Given as goal

-- what stands there, and what the rest comes to
abbrev pub invariant-loop-rest : goal.invariant-loop-rest
invariant-loop-rest l = l.text.items ++ filled l.rest l.value l.second ≡ l.fn.text.items ++ filled l.words l.first l.second

abbrev pub decreases-loop-rest : goal.decreases-loop-rest
decreases-loop-rest l = length l.rest
