use Rattle.std.proofs.Common.{[], inl, inr, codes}
use Rattle.toml.specs.Data.{get_member}
use Rattle.toml.specs.View.{table_view}
use Rattle.rdm_fixture.specs.FirstWrong.{unit_parts}
use Rattle.rdm_fixture_keys.specs.Values.{named, number, text}
use Rattle.rdm_standard_names.specs.declared.kind.NameKind.TheVariants.{Categories}
use Rattle.rdm_fixture_keys.specs.Wrong.{FirstWrong}
use Rattle.rdm_fixture_keys.proofs.Parts.{exit, some, free_right}
use Rattle.rdm_fixture.proofs.unit.unit.Goals as goal

pub returns-in_err-text_or_none-clause-wrong : goal.returns-in_err-text_or_none-clause-wrong
returns-in_err-text_or_none-clause-wrong c =
    exit (FirstWrong (unit_parts c.args.slots) (table_view c.args.table.now)) _ _ c.from_residual-in_err-text_or_none.ensures.1
    (inr (some _ c.in_ok-number.ensures.value, inl c.in_err-text_or_none.ensures.wrong))

pub returns-in_err-text_or_none-2-clause-wrong : goal.returns-in_err-text_or_none-2-clause-wrong
returns-in_err-text_or_none-2-clause-wrong c =
    exit (FirstWrong (unit_parts c.args.slots) (table_view c.args.table.now)) _ _ c.from_residual-in_err-text_or_none-2.ensures.1
    (inr (some _ c.in_ok-number.ensures.value, inr (free_right [] text (get_member (codes "device_model_description") (table_view c.args.table.now)) _ c.in_ok-text_or_none.ensures.value, inl c.in_err-text_or_none-2.ensures.wrong)))

pub returns-in_err-text_or_none-3-clause-wrong : goal.returns-in_err-text_or_none-3-clause-wrong
returns-in_err-text_or_none-3-clause-wrong c =
    exit (FirstWrong (unit_parts c.args.slots) (table_view c.args.table.now)) _ _ c.from_residual-in_err-text_or_none-3.ensures.1
    (inr (some _ c.in_ok-number.ensures.value, inr (free_right [] text (get_member (codes "device_model_description") (table_view c.args.table.now)) _ c.in_ok-text_or_none.ensures.value, inr (free_right [] text (get_member (codes "manufacturer_label") (table_view c.args.table.now)) _ c.in_ok-text_or_none-2.ensures.value, inl c.in_err-text_or_none-3.ensures.wrong))))

pub returns-in_err-named_or-clause-wrong : goal.returns-in_err-named_or-clause-wrong
returns-in_err-named_or-clause-wrong c =
    exit (FirstWrong (unit_parts c.args.slots) (table_view c.args.table.now)) _ _ c.from_residual-in_err-named_or.ensures.1
    (inr (some _ c.in_ok-number.ensures.value, inr (free_right [] text (get_member (codes "device_model_description") (table_view c.args.table.now)) _ c.in_ok-text_or_none.ensures.value, inr (free_right [] text (get_member (codes "manufacturer_label") (table_view c.args.table.now)) _ c.in_ok-text_or_none-2.ensures.value, inr (free_right [] text (get_member (codes "device_label") (table_view c.args.table.now)) _ c.in_ok-text_or_none-3.ensures.value, inl c.in_err-named_or.ensures.wrong)))))

pub returns-in_err-number_or-clause-wrong : goal.returns-in_err-number_or-clause-wrong
returns-in_err-number_or-clause-wrong c =
    exit (FirstWrong (unit_parts c.args.slots) (table_view c.args.table.now)) _ _ c.from_residual-in_err-number_or.ensures.1
    (inr (some _ c.in_ok-number.ensures.value, inr (free_right [] text (get_member (codes "device_model_description") (table_view c.args.table.now)) _ c.in_ok-text_or_none.ensures.value, inr (free_right [] text (get_member (codes "manufacturer_label") (table_view c.args.table.now)) _ c.in_ok-text_or_none-2.ensures.value, inr (free_right [] text (get_member (codes "device_label") (table_view c.args.table.now)) _ c.in_ok-text_or_none-3.ensures.value, inr (free_right 0 (named Categories) (get_member (codes "product_category") (table_view c.args.table.now)) _ c.in_ok-named_or.ensures.value, inl c.in_err-number_or.ensures.wrong))))))

pub returns-in_err-text_or_none-4-clause-wrong : goal.returns-in_err-text_or_none-4-clause-wrong
returns-in_err-text_or_none-4-clause-wrong c =
    exit (FirstWrong (unit_parts c.args.slots) (table_view c.args.table.now)) _ _ c.from_residual-in_err-text_or_none-4.ensures.1
    (inr (some _ c.in_ok-number.ensures.value, inr (free_right [] text (get_member (codes "device_model_description") (table_view c.args.table.now)) _ c.in_ok-text_or_none.ensures.value, inr (free_right [] text (get_member (codes "manufacturer_label") (table_view c.args.table.now)) _ c.in_ok-text_or_none-2.ensures.value, inr (free_right [] text (get_member (codes "device_label") (table_view c.args.table.now)) _ c.in_ok-text_or_none-3.ensures.value, inr (free_right 0 (named Categories) (get_member (codes "product_category") (table_view c.args.table.now)) _ c.in_ok-named_or.ensures.value, inr (free_right 0 (number 0 0xFFFFFFFF) (get_member (codes "software_version_id") (table_view c.args.table.now)) _ c.in_ok-number_or.ensures.value, inl c.in_err-text_or_none-4.ensures.wrong)))))))

pub returns-in_err-number_or-2-clause-wrong : goal.returns-in_err-number_or-2-clause-wrong
returns-in_err-number_or-2-clause-wrong c =
    exit (FirstWrong (unit_parts c.args.slots) (table_view c.args.table.now)) _ _ c.from_residual-in_err-number_or-2.ensures.1
    (inr (some _ c.in_ok-number.ensures.value, inr (free_right [] text (get_member (codes "device_model_description") (table_view c.args.table.now)) _ c.in_ok-text_or_none.ensures.value, inr (free_right [] text (get_member (codes "manufacturer_label") (table_view c.args.table.now)) _ c.in_ok-text_or_none-2.ensures.value, inr (free_right [] text (get_member (codes "device_label") (table_view c.args.table.now)) _ c.in_ok-text_or_none-3.ensures.value, inr (free_right 0 (named Categories) (get_member (codes "product_category") (table_view c.args.table.now)) _ c.in_ok-named_or.ensures.value, inr (free_right 0 (number 0 0xFFFFFFFF) (get_member (codes "software_version_id") (table_view c.args.table.now)) _ c.in_ok-number_or.ensures.value, inr (free_right [] text (get_member (codes "software_version_label") (table_view c.args.table.now)) _ c.in_ok-text_or_none-4.ensures.value, inl c.in_err-number_or-2.ensures.wrong))))))))

pub returns-in_err-list-clause-wrong : goal.returns-in_err-list-clause-wrong
returns-in_err-list-clause-wrong c =
    exit (FirstWrong (unit_parts c.args.slots) (table_view c.args.table.now)) _ _ c.from_residual-in_err-list.ensures.1
    (inr (some _ c.in_ok-number.ensures.value, inr (free_right [] text (get_member (codes "device_model_description") (table_view c.args.table.now)) _ c.in_ok-text_or_none.ensures.value, inr (free_right [] text (get_member (codes "manufacturer_label") (table_view c.args.table.now)) _ c.in_ok-text_or_none-2.ensures.value, inr (free_right [] text (get_member (codes "device_label") (table_view c.args.table.now)) _ c.in_ok-text_or_none-3.ensures.value, inr (free_right 0 (named Categories) (get_member (codes "product_category") (table_view c.args.table.now)) _ c.in_ok-named_or.ensures.value, inr (free_right 0 (number 0 0xFFFFFFFF) (get_member (codes "software_version_id") (table_view c.args.table.now)) _ c.in_ok-number_or.ensures.value, inr (free_right [] text (get_member (codes "software_version_label") (table_view c.args.table.now)) _ c.in_ok-text_or_none-4.ensures.value, inr (free_right 1 (number 1 512) (get_member (codes "dmx_start_address") (table_view c.args.table.now)) _ c.in_ok-number_or-2.ensures.value, inl c.in_err-list.ensures.wrong)))))))))
