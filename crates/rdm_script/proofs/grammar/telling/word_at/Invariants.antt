use Rattle.std.proofs.Common.{length}
use Rattle.rdm_script.proofs.Refused.{IsLeft}
use Rattle.rdm_script.proofs.grammar.telling.word_at.Given as goal

abbrev pub invariant-loop-end : goal.invariant-loop-end
invariant-loop-end l = IsLeft l.spelling l.line l.index l.left l.rest

abbrev pub decreases-loop-end : goal.decreases-loop-end
decreases-loop-end l = length l.rest
