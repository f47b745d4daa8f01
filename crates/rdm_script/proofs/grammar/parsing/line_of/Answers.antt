use Rattle.std.proofs.Common.{ap, ◌∙◌, true, false, take}
use Rattle.rdm_script.specs.Dialects.{Dialect}
use Rattle.rdm_script.specs.Grammar.{line_in, first_line_in, words_of}
use Rattle.rdm_script.proofs.Words.{bytes_of, line_in_front}
use Rattle.rdm_script.proofs.grammar.parsing.line_of.Goals as goal

pub returns-then-begun : goal.returns-then-begun
returns-then-begun c =
    let words = c.words_of-words.ensures ∙ ap (λ (d : Dialect). take 9 (words_of d.spelling c.args.line.now)) c.dialect.view_is in
    rw c.if-begun.true (c.line_in.ensures ∙ ap (line_in c.args.dialect.now) (ap bytes_of c.as_slice.ensures.value ∙ words) ∙ line_in_front c.args.dialect.now true (words_of c.args.dialect.now.spelling c.args.line.now))

pub returns-else-begun : goal.returns-else-begun
returns-else-begun c =
    let words = c.words_of-words.ensures ∙ ap (λ (d : Dialect). take 9 (words_of d.spelling c.args.line.now)) c.dialect.view_is in
    rw c.if-begun.false (c.first_line_in.ensures ∙ ap (first_line_in c.args.dialect.now) (ap bytes_of c.as_slice-else-begun.ensures.value ∙ words) ∙ line_in_front c.args.dialect.now false (words_of c.args.dialect.now.spelling c.args.line.now))
