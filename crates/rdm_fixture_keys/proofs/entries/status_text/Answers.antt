use Rattle.std.proofs.Common.{refl, inl, inr}
use Rattle.toml.specs.View.{table_view}
use Rattle.rdm_fixture_keys.specs.Entries.{status_parts}
use Rattle.rdm_fixture_keys.specs.Wrong.{FirstWrong}
use Rattle.rdm_fixture_keys.proofs.Parts.{exit, some}
use Rattle.rdm_fixture_keys.proofs.entries.status_text.Goals as goal

pub returns-in_err-number-clause-wrong : goal.returns-in_err-number-clause-wrong
returns-in_err-number-clause-wrong c =
    exit (FirstWrong status_parts (table_view c.args.table.now)) _ _ c.from_residual-in_err-number.ensures.1
    (inr (c.in_ok-only.ensures.variant.0 refl, inl c.in_err-number.ensures.wrong))

pub returns-in_err-text_or_none-clause-wrong : goal.returns-in_err-text_or_none-clause-wrong
returns-in_err-text_or_none-clause-wrong c =
    exit (FirstWrong status_parts (table_view c.args.table.now)) _ _ c.from_residual-in_err-text_or_none.ensures.1
    (inr (c.in_ok-only.ensures.variant.0 refl, inr (some _ c.in_ok-number.ensures.value, inl c.in_err-text_or_none.ensures.wrong)))
