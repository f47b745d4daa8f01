use Rattle.std.proofs.Common.{◌≡◌, true, false, ap, sym, subst, ◌∙◌, rules}
use Rattle.rdm_script.specs.Decimals.{number_up_to}
use Rattle.rdm_script.specs.Grammar.{lost_in, raise_in}
use Rattle.rdm_script.specs.WrongWords.{AreFault, IsFirstWrong}
use Rattle.rdm_script.proofs.Words.{bytes_of}
use Rattle.rdm_script.proofs.LineParts.{IsAltered}
use Rattle.rdm_script.proofs.Tests.{none_at, some_at, there_at, nothing_at, ended, altered_name, other_name, no_words, some_words}
use Rattle.rdm_script.proofs.WrongWords.{nothing_wrong, wrong_name, lost_ends, lost_long, wrong_slot, wrong_raise, raise_ends, raise_long}
use Rattle.rdm_script.proofs.grammar.wrong.wrong_in_fault.Goals as goal

pub returns-then-is_empty-clause-told : goal.returns-then-is_empty-clause-told
returns-then-is_empty-clause-told c = nothing_wrong (bytes_of c.args.words.now) (no_words c.args.words.now c.is_empty.result c.is_empty.ensures c.if-is_empty.true)

pub returns-then-is_some-clause-told : goal.returns-then-is_some-clause-told
returns-then-is_some-clause-told c =
    let ws = bytes_of c.args.words.now in
    let some = some_words c.args.words.now c.is_empty.result c.is_empty.ensures c.if-is_empty.false in
    let lost = there_at _ _ _ c.is_some.ensures c.if-is_some.true (c.lost_in.ensures ∙ ap lost_in c.text_at-name.ensures) in
    ended c.args.words.now c.end_at.result 1 (AreFault ws) (λ i. IsFirstWrong AreFault ws i) c.end_at.ensures (λ few. lost_ends ws some few lost) (λ many. lost_long ws many lost)

pub returns-then-not-is_altered-clause-told : goal.returns-then-not-is_altered-clause-told
returns-then-not-is_altered-clause-told c =
    let ws = bytes_of c.args.words.now in
    let some = some_words c.args.words.now c.is_empty.result c.is_empty.ensures c.if-is_empty.false in
    let lost = nothing_at _ _ _ c.is_some.ensures c.if-is_some.false (c.lost_in.ensures ∙ ap lost_in c.text_at-name.ensures) in
    let fails : c.is_altered.result ≡ false = search rules in
    rw c.wrong.ensures (wrong_name ws some lost (λ is. other_name c.text_at-name.result.now (sym fails ∙ c.is_altered.ensures) (subst IsAltered (sym c.text_at-name.ensures) is)))

pub returns-then-is_none-clause-told : goal.returns-then-is_none-clause-told
returns-then-is_none-clause-told c =
    let ws = bytes_of c.args.words.now in
    let holds : c.is_altered.result ≡ true = search rules in
    let is = subst IsAltered c.text_at-name.ensures (altered_name c.text_at-name.result.now (sym holds ∙ c.is_altered.ensures)) in
    rw c.wrong-then-is_none.ensures (wrong_slot ws is (none_at _ _ _ c.is_none.ensures c.if-is_none.true (c.byte_in.ensures ∙ ap (number_up_to 255) c.text_at.ensures)))

pub returns-then-is_none-2-clause-told : goal.returns-then-is_none-2-clause-told
returns-then-is_none-2-clause-told c =
    let ws = bytes_of c.args.words.now in
    let holds : c.is_altered.result ≡ true = search rules in
    let is = subst IsAltered c.text_at-name.ensures (altered_name c.text_at-name.result.now (sym holds ∙ c.is_altered.ensures)) in
    let slot = some_at _ _ _ c.is_none.ensures c.if-is_none.false (c.byte_in.ensures ∙ ap (number_up_to 255) c.text_at.ensures) in
    rw c.wrong-then-is_none-2.ensures (wrong_raise ws is slot (none_at _ _ _ c.is_none-2.ensures c.if-is_none-2.true (c.raise_in.ensures ∙ ap raise_in c.text_at-2.ensures)))

pub returns-clause-told : goal.returns-clause-told
returns-clause-told c =
    let ws = bytes_of c.args.words.now in
    let holds : c.is_altered.result ≡ true = search rules in
    let is = subst IsAltered c.text_at-name.ensures (altered_name c.text_at-name.result.now (sym holds ∙ c.is_altered.ensures)) in
    let slot = some_at _ _ _ c.is_none.ensures c.if-is_none.false (c.byte_in.ensures ∙ ap (number_up_to 255) c.text_at.ensures) in
    let raise = some_at _ _ _ c.is_none-2.ensures c.if-is_none-2.false (c.raise_in.ensures ∙ ap raise_in c.text_at-2.ensures) in
    ended c.args.words.now c.end_at-2.result 3 (AreFault ws) (λ i. IsFirstWrong AreFault ws i) c.end_at-2.ensures (λ few. raise_ends ws few is slot raise) (λ many. raise_long ws many is slot raise)
