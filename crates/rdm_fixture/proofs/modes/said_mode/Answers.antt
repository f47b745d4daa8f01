use Rattle.std.proofs.Common.{[], inl, inr, refl, codes}
use Rattle.toml.specs.Data.{get_member}
use Rattle.toml.specs.View.{table_view}
use Rattle.rdm_fixture_keys.specs.Values.{text}
use Rattle.rdm_fixture_keys.specs.Wrong.{FirstWrong}
use Rattle.rdm_fixture_keys.proofs.Parts.{exit, some, free_right}
use Rattle.rdm_fixture.specs.OwnSlots.{mode_parts}
use Rattle.rdm_fixture.proofs.modes.said_mode.Goals as goal

pub returns-in_err-footprint-clause-wrong : goal.returns-in_err-footprint-clause-wrong
returns-in_err-footprint-clause-wrong c =
    exit (FirstWrong mode_parts (table_view c.args.table.now)) _ _ c.from_residual-in_err-footprint.ensures.1
    (inr (c.in_ok-only.ensures.variant.0 refl, inl c.in_err-footprint.ensures.wrong))

pub returns-in_err-name-clause-wrong : goal.returns-in_err-name-clause-wrong
returns-in_err-name-clause-wrong c =
    exit (FirstWrong mode_parts (table_view c.args.table.now)) _ _ c.from_residual-in_err-name.ensures.1
    (inr (c.in_ok-only.ensures.variant.0 refl, inr (some _ c.in_ok-footprint.ensures.value, inl c.in_err-name.ensures.wrong)))

pub returns-in_err-slots_of-clause-wrong : goal.returns-in_err-slots_of-clause-wrong
returns-in_err-slots_of-clause-wrong c =
    exit (FirstWrong mode_parts (table_view c.args.table.now)) _ _ c.from_residual-in_err-slots_of.ensures.1
    (inr (c.in_ok-only.ensures.variant.0 refl, inr (some _ c.in_ok-footprint.ensures.value, inr (free_right [] text (get_member (codes "description") (table_view c.args.table.now)) _ c.in_ok-name.ensures.value, inl c.in_err-slots_of.ensures.wrong))))
