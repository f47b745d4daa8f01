use Rattle.std.proofs.Common.{◌≡◌, Some, take, All, IsTrue}
use Rattle.toml.specs.Data.{array}
use Rattle.toml.specs.View.{items_view}
use Rattle.rdm_fixture.specs.Describable.{is_coded}
use Rattle.rdm_fixture.specs.Lists.{EachIs}
use Rattle.rdm_fixture_keys.specs.Values.{language}
use Rattle.rdm_fixture.specs.Writing.{IsPlain}
use Rattle.rdm_fixture.proofs.writing.tables.languages_of.Given as goal

abbrev pub invariant-loop-language : goal.invariant-loop-language
invariant-loop-language l = record {
  says : All (λ x. IsTrue (is_coded x)) l.language-items → EachIs (λ d x. language d ≡ Some x) (items_view l.codes.items) (take l.language-index l.language-items);
  plain : IsPlain 1 (array (items_view l.codes.items));
}
