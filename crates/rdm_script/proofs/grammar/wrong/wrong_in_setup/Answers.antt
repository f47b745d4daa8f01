use Rattle.std.proofs.Common.{ap, sym, subst, Bool, false, ◌∙◌}
use Rattle.std.specs.Prelude.{MatchOption}
use Rattle.rdm_script.specs.Decimals.{number_up_to}
use Rattle.rdm_script.specs.Grammar.{want_in}
use Rattle.rdm_script.specs.WrongWords.{AreLine, IsFirstWrong}
use Rattle.rdm_script.proofs.Words.{bytes_of}
use Rattle.rdm_script.proofs.Tests.{none_at, some_at, ended}
use Rattle.rdm_script.proofs.WrongSteps.{wrong_late, wrong_subs, wrong_room, wrong_want, setup_long, setup_ends}
use Rattle.rdm_script.proofs.grammar.wrong.wrong_in_setup.Goals as goal

pub returns-then-begun-clause-told : goal.returns-then-begun-clause-told
returns-then-begun-clause-told c d =
    let ws = bytes_of c.args.words.now in
    subst (λ (b : Bool). IsFirstWrong (AreLine d b) ws c.wrong.result.index) (sym c.if-begun.true) (rw c.wrong.ensures (wrong_late d ws c.requires))

pub returns-then-is_none-clause-told : goal.returns-then-is_none-clause-told
returns-then-is_none-clause-told c d =
    let ws = bytes_of c.args.words.now in
    subst (λ (b : Bool). IsFirstWrong (AreLine d b) ws c.wrong-then-is_none.result.index) (sym c.if-begun.false) (rw c.wrong-then-is_none.ensures (wrong_subs d ws c.requires (none_at _ _ _ c.is_none.ensures c.if-is_none.true (c.word_in.ensures ∙ ap (number_up_to 65535) c.text_at.ensures))))

pub returns-then-is_none-2-clause-told : goal.returns-then-is_none-2-clause-told
returns-then-is_none-2-clause-told c d =
    let ws = bytes_of c.args.words.now in
    let s = some_at _ _ _ c.is_none.ensures c.if-is_none.false (c.word_in.ensures ∙ ap (number_up_to 65535) c.text_at.ensures) in
    subst (λ (b : Bool). IsFirstWrong (AreLine d b) ws c.wrong-then-is_none-2.result.index) (sym c.if-begun.false) (rw c.wrong-then-is_none-2.ensures (wrong_room d ws c.requires s (none_at _ _ _ c.is_none-2.ensures c.if-is_none-2.true (c.word_in-2.ensures ∙ ap (number_up_to 65535) c.text_at-2.ensures))))

pub returns-then-is_none-3-clause-told : goal.returns-then-is_none-3-clause-told
returns-then-is_none-3-clause-told c d =
    let ws = bytes_of c.args.words.now in
    let s = some_at _ _ _ c.is_none.ensures c.if-is_none.false (c.word_in.ensures ∙ ap (number_up_to 65535) c.text_at.ensures) in
    let q = some_at _ _ _ c.is_none-2.ensures c.if-is_none-2.false (c.word_in-2.ensures ∙ ap (number_up_to 65535) c.text_at-2.ensures) in
    subst (λ (b : Bool). IsFirstWrong (AreLine d b) ws c.wrong-then-is_none-3.result.index) (sym c.if-begun.false) (rw c.wrong-then-is_none-3.ensures (wrong_want d ws c.requires s q (none_at _ _ _ c.is_none-3.ensures c.if-is_none-3.true (c.want_in.ensures ∙ ap want_in c.text_at-3.ensures))))

pub returns-clause-told : goal.returns-clause-told
returns-clause-told c d =
    let ws = bytes_of c.args.words.now in
    let s = some_at _ _ _ c.is_none.ensures c.if-is_none.false (c.word_in.ensures ∙ ap (number_up_to 65535) c.text_at.ensures) in
    let q = some_at _ _ _ c.is_none-2.ensures c.if-is_none-2.false (c.word_in-2.ensures ∙ ap (number_up_to 65535) c.text_at-2.ensures) in
    let w = some_at _ _ _ c.is_none-3.ensures c.if-is_none-3.false (c.want_in.ensures ∙ ap want_in c.text_at-3.ensures) in
    subst (λ (b : Bool). MatchOption c.end_at.result (AreLine d b ws) (λ w. IsFirstWrong (AreLine d b) ws w.index)) (sym c.if-begun.false)
    (ended c.args.words.now c.end_at.result 4 (AreLine d false ws) (λ i. IsFirstWrong (AreLine d false) ws i) c.end_at.ensures (λ few. setup_ends d ws few c.requires s q w) (λ many. setup_long d ws many c.requires s q w))
