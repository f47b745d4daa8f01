use Rattle.std.proofs.Common.{◌≡◌, Some, sym, ap, ◌∙◌, get_or, arith}
use Rattle.toml.specs.View.{view}
use Rattle.rdm_fixture_keys.specs.Values.{language}
use Rattle.rdm_fixture.proofs.ListEntries.{EachIs-at, EachIs-more}
use Rattle.rdm_fixture.proofs.profile.languages_of.Goals as goal

pub returns-in_default-clause-read : goal.returns-in_default-clause-read
returns-in_default-clause-read c = λ xs h.
    let codes = c.args.list.now.items in
    let at = EachIs-at (λ d x. language d ≡ Some x) codes xs.items c.loop-code.code-index c.code-item.result h (omega arith) in
    let here : get_or codes c.loop-code.code-index c.code-item.result ≡ c.code-item.result =
    ap (λ vs. get_or vs c.loop-code.code-index c.code-item.result) (sym c.deref-code-items.ensures.value) ∙ sym c.code-item.is in
    let said : language (view c.code-item.result) ≡ Some at.0 = ap (λ v. language (view v)) (sym here) ∙ at.1 in
    c.in_default.not-Some at.0 (c.language_of.ensures ∙ said)

pub loop-code-preserved : goal.loop-code-preserved
loop-code-preserved c =
    let codes = c.args.list.now.items in
    let here : get_or codes c.loop-code.code-index c.code-item.result ≡ c.code-item.result =
    ap (λ vs. get_or vs c.loop-code.code-index c.code-item.result) (sym c.deref-code-items.ensures.value) ∙ sym c.code-item.is in
    let said : language (view c.code-item.result) ≡ Some c.in-Some.language = sym c.language_of.ensures ∙ c.in-Some.is in
    record {
      read = rw c.push.ensures.items (EachIs-more (λ d x. language d ≡ Some x) codes c.loop-code.code-index c.code-item.result _ _ (omega arith) c.loop-code.invariant.read (ap (λ v. language (view v)) here ∙ said));
      count = omega arith;
    }
