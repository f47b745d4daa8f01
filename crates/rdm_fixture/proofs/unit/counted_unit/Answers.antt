use Rattle.std.proofs.Common.{refl, inr}
use Rattle.toml.specs.View.{table_view}
use Rattle.rdm_fixture.specs.FirstWrong.{sub_parts}
use Rattle.rdm_fixture_keys.specs.Wrong.{FirstWrong}
use Rattle.rdm_fixture_keys.proofs.Parts.{exit, some}
use Rattle.rdm_fixture.proofs.unit.counted_unit.Goals as goal

pub returns-in_err-unit-clause-wrong : goal.returns-in_err-unit-clause-wrong
returns-in_err-unit-clause-wrong c =
    exit (FirstWrong sub_parts (table_view c.args.table.now)) _ _ c.from_residual-in_err-unit.ensures.1
    (inr (c.in_ok-only.ensures.variant.0 refl, inr (some _ c.in_ok-count.ensures.value, c.in_err-unit.ensures.wrong)))
