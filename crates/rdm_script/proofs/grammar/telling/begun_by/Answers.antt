use Rattle.std.proofs.Common.{ap, not, ◌∙◌}
use Rattle.rdm_script.specs.Grammar.{is_skipped, words_of}
use Rattle.rdm_script.proofs.Words.{bytes_of}
use Rattle.rdm_script.proofs.Refused.{skipped_of_nine}
use Rattle.rdm_script.proofs.grammar.telling.begun_by.Goals as goal

pub returns-else-begun : goal.returns-else-begun
returns-else-begun c = rw c.if-begun.false (ap not (c.is_skipped.ensures ∙ ap is_skipped (ap bytes_of c.as_slice.ensures.value ∙ c.words_of.ensures) ∙ skipped_of_nine (words_of c.args.spelling c.args.line.now)))
