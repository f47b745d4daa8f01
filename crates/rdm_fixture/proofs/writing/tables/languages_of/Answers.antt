use Rattle.std.proofs.Common.{◌≡◌, ◌≤◌, Some, All, IsTrue, take, length, ap, ◌∙◌, arith}
use Rattle.std.proofs.lemmas.List.{take_all}
use Rattle.toml.specs.View.{items_view}
use Rattle.toml.proofs.Views.{view-Array}
use Rattle.rdm_fixture.specs.Describable.{is_coded}
use Rattle.rdm_fixture.specs.Lists.{EachIs}
use Rattle.rdm_fixture_keys.specs.Values.{language}
use Rattle.rdm_fixture.proofs.WrittenFixtures.{code_more}
use Rattle.rdm_fixture.proofs.WrittenLists.{plain_last}
use Rattle.rdm_fixture.proofs.writing.tables.languages_of.Goals as goal

pub loop-language-preserved : goal.loop-language-preserved
loop-language-preserved c =
    let plain = c.in_ok-code_of.ensures.plain in
    let shallow = plain.shallow in
    record {
      says = λ coded.
          rw c.in_ok-push.ensures.items
          (code_more c.loop-language.codes.items c.in_ok-code_of.field-0 c.as_slice-language-items.result.now c.loop-language.language-index
          c.loop-language-test.true (c.loop-language.invariant.says coded)
          (c.in_ok-code_of.ensures.says (coded c.loop-language.language-index 0 c.loop-language-test.true)));
      plain = rw c.in_ok-push.ensures.items
          (plain_last 1 c.loop-language.codes.items c.in_ok-code_of.field-0 (omega arith) c.loop-language.invariant.plain (omega (arith, shallow)) plain.dates);
    }

pub returns-clause-says : goal.returns-clause-says
returns-clause-says c = λ some coded.
    let xs = c.args.languages.now.items in
    let same : c.as_slice-language-items.result.now ≡ xs = c.as_slice-language-items.ensures.value in
    let fit : length xs ≤ 8 = omega (arith, ap length same, c.as_slice-language-items.ensures.fits) in
    let whole : take c.loop-language.language-index c.as_slice-language-items.result.now ≡ xs = take_all _ _ c.loop-language-test.false ∙ same in
    let all : All (λ x. IsTrue (is_coded x)) c.as_slice-language-items.result.now = rw same coded in
    let items : EachIs (λ d x. language d ≡ Some x) (items_view c.loop-language.codes.items) xs = rw whole at (c.loop-language.invariant.says all) in
    rw (view-Array c.loop-language.codes) (some, fit, items)
