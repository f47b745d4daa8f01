use Rattle.std.proofs.Common.{length}
use Rattle.rdm_words.specs.Before.{before_all}
use Rattle.rdm_words.proofs.Lines.{SaidBefore}
use Rattle.rdm_words.proofs.line_words.words.Given as goal

abbrev pub invariant-loop-end : goal.invariant-loop-end
invariant-loop-end l = SaidBefore before_all l.text l.before l.rest l.out.items

abbrev pub decreases-loop-end : goal.decreases-loop-end
decreases-loop-end l = length l.rest
