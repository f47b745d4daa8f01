use Rattle.std.proofs.Common.{drop}
use Rattle.rdm_words.specs.Before.{before_all}
use Rattle.rdm_words.proofs.Telling.{ToldBefore}
use Rattle.rdm_words.proofs.line_words.words_of_lines.Given as goal

abbrev pub invariant-loop-line : goal.invariant-loop-line
invariant-loop-line l = ToldBefore before_all l.lines l.before (drop l.line-index l.lines) l.out.items
