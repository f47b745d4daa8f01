-- Which text describes a fixture: it is a document of TOML whose table is one.
use Rattle.std.specs.Prelude.{◌≡◌, ℕ, List, Some}
use Rattle.toml.specs.Data.{Members}
use Rattle.toml.specs.Parse.{parse_document}
use Rattle.rdm_fixture.specs.declared.fixture.Fixture.{Fixture}
use Rattle.rdm_fixture.specs.Format.{IsFixture}

pub record Describes (text : List ℕ) (f : Fixture) : Type 0 where
  pub document : Members
  pub parsed : parse_document text ≡ Some document
  pub fixture : IsFixture document f

abbrev pub DescribesNothing : List ℕ → Type 0
DescribesNothing text = (f : Fixture) → ¬ Describes text f
