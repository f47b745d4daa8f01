use Rattle.std.proofs.Common.{ap, ◌∙◌}
use Rattle.rdm_script.specs.Decimals.{number_up_to}
use Rattle.rdm_script.specs.WrongWords.{AreLine, IsFirstWrong}
use Rattle.rdm_script.proofs.Words.{bytes_of}
use Rattle.rdm_script.proofs.Tests.{none_at, some_at, ended}
use Rattle.rdm_script.proofs.WrongSteps.{wrong_count, count_long, count_ends}
use Rattle.rdm_script.proofs.grammar.wrong.wrong_in_count.Goals as goal

pub returns-then-is_none-clause-told : goal.returns-then-is_none-clause-told
returns-then-is_none-clause-told c d begun =
    let ws = bytes_of c.args.words.now in
    rw c.wrong.ensures (wrong_count d begun ws c.requires (none_at _ _ _ c.is_none.ensures c.if-is_none.true (c.long_in.ensures ∙ ap (number_up_to 4294967295) c.text_at.ensures)))

pub returns-clause-told : goal.returns-clause-told
returns-clause-told c d begun =
    let ws = bytes_of c.args.words.now in
    let count = some_at _ _ _ c.is_none.ensures c.if-is_none.false (c.long_in.ensures ∙ ap (number_up_to 4294967295) c.text_at.ensures) in
    ended c.args.words.now c.end_at.result 2 (AreLine d begun ws) (λ i. IsFirstWrong (AreLine d begun) ws i) c.end_at.ensures (λ few. count_ends d begun ws few c.requires count) (λ many. count_long d begun ws many c.requires count)
