use Rattle.std.proofs.Common.{◌≡◌, ◌++◌, length}
use Rattle.rdm_survey.specs.Shown.{unshown}
use Rattle.rdm_compare.proofs.word_reading.unshown.Given as goal

abbrev pub invariant-loop-rest : goal.invariant-loop-rest
invariant-loop-rest l = unshown l.word ≡ l.text.items ++ unshown l.rest

abbrev pub decreases-loop-rest : goal.decreases-loop-rest
decreases-loop-rest l = length l.rest
