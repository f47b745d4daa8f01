use Rattle.std.proofs.Common.{◌≤◌, ap, ◌∙◌, subst, length, take, arith}
use Rattle.rdm_script.specs.Dialects.{Dialect}
use Rattle.rdm_script.specs.Grammar.{words_of}
use Rattle.rdm_script.specs.WrongWords.{BeginsAt}
use Rattle.rdm_script.proofs.Words.{bytes_of}
use Rattle.rdm_script.proofs.Refused.{told_word, told_some, told_none}
use Rattle.rdm_script.proofs.grammar.telling.refusal_of.Goals as goal

pub returns-in-Some-clause-told : goal.returns-in-Some-clause-told
returns-in-Some-clause-told c faulty =
    let d = c.args.dialect.now in
    let line = c.args.line.now in
    let i = c.wrong_word-wrong.result.index in
    let words = c.words_of-words.ensures ∙ ap (λ (x : Dialect). take 9 (words_of x.spelling line)) c.dialect.view_is in
    let first = told_word d c.args.begun line _ i (ap bytes_of c.as_slice.ensures.value ∙ words) c.wrong_word-wrong.ensures.index c.wrong_word-wrong.ensures.within faulty in
    let begins = subst (λ (x : Dialect). BeginsAt x.spelling line i c.in-Some.at c.in-Some.word.now) c.dialect.view_is c.in-Some.ensures.0 in
    told_some d c.args.begun line _ _ _ _ _ first begins c.in-Some.ensures.1 (grind arith) c.at.ensures.column c.at.ensures.word

pub returns-in-None-clause-told : goal.returns-in-None-clause-told
returns-in-None-clause-told c faulty =
    let d = c.args.dialect.now in
    let line = c.args.line.now in
    let i = c.wrong_word-wrong.result.index in
    let words = c.words_of-words.ensures ∙ ap (λ (x : Dialect). take 9 (words_of x.spelling line)) c.dialect.view_is in
    let first = told_word d c.args.begun line _ i (ap bytes_of c.as_slice.ensures.value ∙ words) c.wrong_word-wrong.ensures.index c.wrong_word-wrong.ensures.within faulty in
    let past = subst (λ (x : Dialect). length (words_of x.spelling line) ≤ i) c.dialect.view_is c.in-None.ensures in
    told_none d c.args.begun line _ _ _ first past (grind arith) c.at-in-None.ensures.column c.at-in-None.ensures.word
