use Rattle.std.proofs.Common.{◌≡◌, ◌++◌, length}
use Rattle.rdm_survey.specs.Places.{clashes, clashes_of}
use Rattle.rdm_survey.proofs.clashing.clashes.Given as goal

abbrev pub invariant-loop-rest : goal.invariant-loop-rest
invariant-loop-rest l = clashes l.rows ≡ l.list.items ++ clashes_of l.rest

abbrev pub decreases-loop-rest : goal.decreases-loop-rest
decreases-loop-rest l = length l.rest
