use Rattle.std.proofs.Common.{◌≡◌, ap, ◌∙◌, rules}
use Rattle.std.specs.Prelude.{codes}
use Rattle.rdm_script.specs.Grammar.{word, action_in}
use Rattle.rdm_script.specs.WrongWords.{AreLine, IsFirstWrong}
use Rattle.rdm_script.proofs.Words.{bytes_of}
use Rattle.rdm_script.proofs.OtherLines.{IsSearch, IsNoName}
use Rattle.rdm_script.proofs.Tests.{nothing_at, ended}
use Rattle.rdm_script.proofs.WrongSteps.{draw_wrong, draw_ends, search_wrong, search_ends, wrong_step}
use Rattle.rdm_script.proofs.grammar.wrong.wrong_in_line.Goals as goal

pub returns-then-eq-3-clause-told : goal.returns-then-eq-3-clause-told
returns-then-eq-3-clause-told c faulty =
    let ws = bytes_of c.args.words.now in
    let d = c.args.dialect.now in
    let is : word ws 0 ≡ codes "draw" = search rules in
    ended c.args.words.now c.end_at.result 1 (AreLine d c.args.begun ws) (λ i. IsFirstWrong (AreLine d c.args.begun) ws i) c.end_at.ensures (λ few. draw_ends d c.args.begun ws few is) (λ many. draw_wrong d c.args.begun ws many is)

pub returns-then-is_find_name-clause-told : goal.returns-then-is_find_name-clause-told
returns-then-is_find_name-clause-told c faulty =
    let ws = bytes_of c.args.words.now in
    let d = c.args.dialect.now in
    let is : IsSearch d.spelling (word ws 0) = search rules in
    ended c.args.words.now c.end_at-then-is_find_name.result 1 (AreLine d c.args.begun ws) (λ i. IsFirstWrong (AreLine d c.args.begun) ws i) c.end_at-then-is_find_name.ensures (λ few. search_ends d c.args.begun ws few is) (λ many. search_wrong d c.args.begun ws many is)

pub returns-clause-told : goal.returns-clause-told
returns-clause-told c faulty =
    let ws = bytes_of c.args.words.now in
    let none : IsNoName c.args.dialect.now (word ws 0) = record {
      search = search rules;
      setup = search rules;
      action = nothing_at _ _ _ c.is_some.ensures c.if-is_some.false (c.action_in.ensures ∙ ap action_in c.text_at-name.ensures);
      collect = search rules;
      draw = search rules;
      settle = search rules;
      panel = search rules;
    } in
    rw c.wrong.ensures (wrong_step c.args.dialect.now c.args.begun ws none faulty)
