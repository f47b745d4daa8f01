use Rattle.std.proofs.Common.{refl, sym, inl, inr, codes}
use Rattle.toml.specs.Data.{get_member}
use Rattle.toml.specs.View.{table_view}
use Rattle.rdm_fixture_keys.specs.Entries.{slot_parts}
use Rattle.rdm_fixture_keys.specs.Values.{named, number}
use Rattle.rdm_standard_names.specs.declared.kind.NameKind.TheVariants.{Slots}
use Rattle.rdm_fixture_keys.specs.Wrong.{FirstWrong}
use Rattle.rdm_fixture_keys.proofs.Parts.{exit, some, free_right}
use Rattle.rdm_fixture_keys.proofs.entries.slot.Goals as goal

pub returns-in_err-kind-clause-wrong : goal.returns-in_err-kind-clause-wrong
returns-in_err-kind-clause-wrong c =
    exit (FirstWrong slot_parts (table_view c.args.table.now)) _ _ c.from_residual-in_err-kind.ensures.1
    (inr (c.in_ok-only.ensures.variant.0 refl, inl c.in_err-kind.ensures.wrong))

pub returns-in_err-slot_label-clause-wrong : goal.returns-in_err-slot_label-clause-wrong
returns-in_err-slot_label-clause-wrong c =
    exit (FirstWrong slot_parts (table_view c.args.table.now)) _ _ c.from_residual-in_err-slot_label.ensures.1
    (inr (c.in_ok-only.ensures.variant.0 refl, inr (free_right 0 (named Slots) (get_member (codes "type") (table_view c.args.table.now)) _ c.in_ok-kind.ensures.value, inl (c.in_ok-kind.field-0, sym c.in_ok-kind.ensures.value, c.in_err-slot_label.ensures.wrong))))

pub returns-in_err-number_or-clause-wrong : goal.returns-in_err-number_or-clause-wrong
returns-in_err-number_or-clause-wrong c =
    exit (FirstWrong slot_parts (table_view c.args.table.now)) _ _ c.from_residual-in_err-number_or.ensures.1
    (inr (c.in_ok-only.ensures.variant.0 refl, inr (free_right 0 (named Slots) (get_member (codes "type") (table_view c.args.table.now)) _ c.in_ok-kind.ensures.value, inr ((c.in_ok-kind.field-0, sym c.in_ok-kind.ensures.value, some _ c.in_ok-slot_label.ensures.value), inl c.in_err-number_or.ensures.wrong))))

pub returns-in_err-text_or_none-clause-wrong : goal.returns-in_err-text_or_none-clause-wrong
returns-in_err-text_or_none-clause-wrong c =
    exit (FirstWrong slot_parts (table_view c.args.table.now)) _ _ c.from_residual-in_err-text_or_none.ensures.1
    (inr (c.in_ok-only.ensures.variant.0 refl, inr (free_right 0 (named Slots) (get_member (codes "type") (table_view c.args.table.now)) _ c.in_ok-kind.ensures.value, inr ((c.in_ok-kind.field-0, sym c.in_ok-kind.ensures.value, some _ c.in_ok-slot_label.ensures.value), inr (free_right 0 (number 0 0xFF) (get_member (codes "default_value") (table_view c.args.table.now)) _ c.in_ok-number_or.ensures.value, inl c.in_err-text_or_none.ensures.wrong)))))
