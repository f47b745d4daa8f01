-- Why no fixture was read from a text.
use Rattle.std.specs.Prelude.{◌≡◌, Option, Some, None}
use Rattle.toml.specs.Data.{Members}
use Rattle.rdm_fixture.specs.declared.document.FixtureError.{FixtureError}
use Rattle.rdm_fixture.specs.declared.document.FixtureError.TheVariants.{OutOfMemory, Syntax, Refused}
use Rattle.rdm_fixture_keys.specs.Faults.{told}
use Rattle.rdm_fixture.specs.FirstWrong.{fixture_parts}
use Rattle.rdm_fixture_keys.specs.Wrong.{FirstWrong}

-- Without memory nothing is said of the text. Else it isn't a document, or the first part of it that isn't right is wrong as the
-- refusal tells.
abbrev pub IsCause : Option Members → FixtureError → Type 0
IsCause document OutOfMemory = Unit {0}
IsCause document (Syntax e) = document ≡ None
IsCause None (Refused refusal) = ⊥
IsCause (Some document) (Refused refusal) = FirstWrong fixture_parts document (told refusal)
