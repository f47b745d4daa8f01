use Rattle.std.proofs.Common.{◌≡◌, take, length, Some}
use Rattle.toml.specs.View.{items_view}
use Rattle.rdm_fixture.specs.Lists.{EachIs}
use Rattle.rdm_fixture_keys.specs.Values.{language}
use Rattle.rdm_fixture.proofs.profile.languages_of.Given as goal

abbrev pub invariant-loop-code : goal.invariant-loop-code
invariant-loop-code l = record {
  read : EachIs (λ d x. language d ≡ Some x) (items_view (take l.code-index l.list.items)) l.languages.items;
  count : length l.languages.items ≡ l.code-index;
}
