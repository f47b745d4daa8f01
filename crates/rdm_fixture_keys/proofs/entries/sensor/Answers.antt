use Rattle.std.proofs.Common.{[], pos, neg_ℤ, refl, inl, inr, codes}
use Rattle.toml.specs.Data.{get_member}
use Rattle.toml.specs.View.{table_view}
use Rattle.rdm_fixture_keys.specs.Entries.{sensor_parts}
use Rattle.rdm_fixture_keys.specs.Values.{named, number, signed, text}
use Rattle.rdm_standard_names.specs.declared.kind.NameKind.TheVariants.{Prefixes, Units}
use Rattle.rdm_fixture_keys.specs.Wrong.{FirstWrong}
use Rattle.rdm_fixture_keys.proofs.Parts.{exit, some, free_right}
use Rattle.rdm_fixture_keys.proofs.entries.sensor.Goals as goal

pub returns-in_err-named-clause-wrong : goal.returns-in_err-named-clause-wrong
returns-in_err-named-clause-wrong c =
    exit (FirstWrong sensor_parts (table_view c.args.table.now)) _ _ c.from_residual-in_err-named.ensures.1
    (inr (c.in_ok-only.ensures.variant.0 refl, inl c.in_err-named.ensures.wrong))

pub returns-in_err-named_or-clause-wrong : goal.returns-in_err-named_or-clause-wrong
returns-in_err-named_or-clause-wrong c =
    exit (FirstWrong sensor_parts (table_view c.args.table.now)) _ _ c.from_residual-in_err-named_or.ensures.1
    (inr (c.in_ok-only.ensures.variant.0 refl, inr (some _ c.in_ok-named.ensures.value, inl c.in_err-named_or.ensures.wrong)))

pub returns-in_err-named_or-2-clause-wrong : goal.returns-in_err-named_or-2-clause-wrong
returns-in_err-named_or-2-clause-wrong c =
    exit (FirstWrong sensor_parts (table_view c.args.table.now)) _ _ c.from_residual-in_err-named_or-2.ensures.1
    (inr (c.in_ok-only.ensures.variant.0 refl, inr (some _ c.in_ok-named.ensures.value, inr (free_right 0 (named Units) (get_member (codes "unit") (table_view c.args.table.now)) _ c.in_ok-named_or.ensures.value, inl c.in_err-named_or-2.ensures.wrong))))

pub returns-in_err-signed_or-clause-wrong : goal.returns-in_err-signed_or-clause-wrong
returns-in_err-signed_or-clause-wrong c =
    exit (FirstWrong sensor_parts (table_view c.args.table.now)) _ _ c.from_residual-in_err-signed_or.ensures.1
    (inr (c.in_ok-only.ensures.variant.0 refl, inr (some _ c.in_ok-named.ensures.value, inr (free_right 0 (named Units) (get_member (codes "unit") (table_view c.args.table.now)) _ c.in_ok-named_or.ensures.value, inr (free_right 0 (named Prefixes) (get_member (codes "prefix") (table_view c.args.table.now)) _ c.in_ok-named_or-2.ensures.value, inl c.in_err-signed_or.ensures.wrong)))))

pub returns-in_err-signed_or-2-clause-wrong : goal.returns-in_err-signed_or-2-clause-wrong
returns-in_err-signed_or-2-clause-wrong c =
    exit (FirstWrong sensor_parts (table_view c.args.table.now)) _ _ c.from_residual-in_err-signed_or-2.ensures.1
    (inr (c.in_ok-only.ensures.variant.0 refl, inr (some _ c.in_ok-named.ensures.value, inr (free_right 0 (named Units) (get_member (codes "unit") (table_view c.args.table.now)) _ c.in_ok-named_or.ensures.value, inr (free_right 0 (named Prefixes) (get_member (codes "prefix") (table_view c.args.table.now)) _ c.in_ok-named_or-2.ensures.value, inr (free_right (neg_ℤ (pos 32768)) signed (get_member (codes "range_minimum_value") (table_view c.args.table.now)) _ c.in_ok-signed_or.ensures.value, inl c.in_err-signed_or-2.ensures.wrong))))))

pub returns-in_err-signed_or-3-clause-wrong : goal.returns-in_err-signed_or-3-clause-wrong
returns-in_err-signed_or-3-clause-wrong c =
    exit (FirstWrong sensor_parts (table_view c.args.table.now)) _ _ c.from_residual-in_err-signed_or-3.ensures.1
    (inr (c.in_ok-only.ensures.variant.0 refl, inr (some _ c.in_ok-named.ensures.value, inr (free_right 0 (named Units) (get_member (codes "unit") (table_view c.args.table.now)) _ c.in_ok-named_or.ensures.value, inr (free_right 0 (named Prefixes) (get_member (codes "prefix") (table_view c.args.table.now)) _ c.in_ok-named_or-2.ensures.value, inr (free_right (neg_ℤ (pos 32768)) signed (get_member (codes "range_minimum_value") (table_view c.args.table.now)) _ c.in_ok-signed_or.ensures.value, inr (free_right (pos 32767) signed (get_member (codes "range_maximum_value") (table_view c.args.table.now)) _ c.in_ok-signed_or-2.ensures.value, inl c.in_err-signed_or-3.ensures.wrong)))))))

pub returns-in_err-signed_or-4-clause-wrong : goal.returns-in_err-signed_or-4-clause-wrong
returns-in_err-signed_or-4-clause-wrong c =
    exit (FirstWrong sensor_parts (table_view c.args.table.now)) _ _ c.from_residual-in_err-signed_or-4.ensures.1
    (inr (c.in_ok-only.ensures.variant.0 refl, inr (some _ c.in_ok-named.ensures.value, inr (free_right 0 (named Units) (get_member (codes "unit") (table_view c.args.table.now)) _ c.in_ok-named_or.ensures.value, inr (free_right 0 (named Prefixes) (get_member (codes "prefix") (table_view c.args.table.now)) _ c.in_ok-named_or-2.ensures.value, inr (free_right (neg_ℤ (pos 32768)) signed (get_member (codes "range_minimum_value") (table_view c.args.table.now)) _ c.in_ok-signed_or.ensures.value, inr (free_right (pos 32767) signed (get_member (codes "range_maximum_value") (table_view c.args.table.now)) _ c.in_ok-signed_or-2.ensures.value, inr (free_right (neg_ℤ (pos 32768)) signed (get_member (codes "normal_minimum_value") (table_view c.args.table.now)) _ c.in_ok-signed_or-3.ensures.value, inl c.in_err-signed_or-4.ensures.wrong))))))))

pub returns-in_err-number_or-clause-wrong : goal.returns-in_err-number_or-clause-wrong
returns-in_err-number_or-clause-wrong c =
    exit (FirstWrong sensor_parts (table_view c.args.table.now)) _ _ c.from_residual-in_err-number_or.ensures.1
    (inr (c.in_ok-only.ensures.variant.0 refl, inr (some _ c.in_ok-named.ensures.value, inr (free_right 0 (named Units) (get_member (codes "unit") (table_view c.args.table.now)) _ c.in_ok-named_or.ensures.value, inr (free_right 0 (named Prefixes) (get_member (codes "prefix") (table_view c.args.table.now)) _ c.in_ok-named_or-2.ensures.value, inr (free_right (neg_ℤ (pos 32768)) signed (get_member (codes "range_minimum_value") (table_view c.args.table.now)) _ c.in_ok-signed_or.ensures.value, inr (free_right (pos 32767) signed (get_member (codes "range_maximum_value") (table_view c.args.table.now)) _ c.in_ok-signed_or-2.ensures.value, inr (free_right (neg_ℤ (pos 32768)) signed (get_member (codes "normal_minimum_value") (table_view c.args.table.now)) _ c.in_ok-signed_or-3.ensures.value, inr (free_right (pos 32767) signed (get_member (codes "normal_maximum_value") (table_view c.args.table.now)) _ c.in_ok-signed_or-4.ensures.value, inl c.in_err-number_or.ensures.wrong)))))))))

pub returns-in_err-text_or_none-clause-wrong : goal.returns-in_err-text_or_none-clause-wrong
returns-in_err-text_or_none-clause-wrong c =
    exit (FirstWrong sensor_parts (table_view c.args.table.now)) _ _ c.from_residual-in_err-text_or_none.ensures.1
    (inr (c.in_ok-only.ensures.variant.0 refl, inr (some _ c.in_ok-named.ensures.value, inr (free_right 0 (named Units) (get_member (codes "unit") (table_view c.args.table.now)) _ c.in_ok-named_or.ensures.value, inr (free_right 0 (named Prefixes) (get_member (codes "prefix") (table_view c.args.table.now)) _ c.in_ok-named_or-2.ensures.value, inr (free_right (neg_ℤ (pos 32768)) signed (get_member (codes "range_minimum_value") (table_view c.args.table.now)) _ c.in_ok-signed_or.ensures.value, inr (free_right (pos 32767) signed (get_member (codes "range_maximum_value") (table_view c.args.table.now)) _ c.in_ok-signed_or-2.ensures.value, inr (free_right (neg_ℤ (pos 32768)) signed (get_member (codes "normal_minimum_value") (table_view c.args.table.now)) _ c.in_ok-signed_or-3.ensures.value, inr (free_right (pos 32767) signed (get_member (codes "normal_maximum_value") (table_view c.args.table.now)) _ c.in_ok-signed_or-4.ensures.value, inr (free_right 0 (number 0 0xFF) (get_member (codes "recorded_value_support") (table_view c.args.table.now)) _ c.in_ok-number_or.ensures.value, inl c.in_err-text_or_none.ensures.wrong))))))))))

pub returns-in_err-flag_or-clause-wrong : goal.returns-in_err-flag_or-clause-wrong
returns-in_err-flag_or-clause-wrong c =
    exit (FirstWrong sensor_parts (table_view c.args.table.now)) _ _ c.from_residual-in_err-flag_or.ensures.1
    (inr (c.in_ok-only.ensures.variant.0 refl, inr (some _ c.in_ok-named.ensures.value, inr (free_right 0 (named Units) (get_member (codes "unit") (table_view c.args.table.now)) _ c.in_ok-named_or.ensures.value, inr (free_right 0 (named Prefixes) (get_member (codes "prefix") (table_view c.args.table.now)) _ c.in_ok-named_or-2.ensures.value, inr (free_right (neg_ℤ (pos 32768)) signed (get_member (codes "range_minimum_value") (table_view c.args.table.now)) _ c.in_ok-signed_or.ensures.value, inr (free_right (pos 32767) signed (get_member (codes "range_maximum_value") (table_view c.args.table.now)) _ c.in_ok-signed_or-2.ensures.value, inr (free_right (neg_ℤ (pos 32768)) signed (get_member (codes "normal_minimum_value") (table_view c.args.table.now)) _ c.in_ok-signed_or-3.ensures.value, inr (free_right (pos 32767) signed (get_member (codes "normal_maximum_value") (table_view c.args.table.now)) _ c.in_ok-signed_or-4.ensures.value, inr (free_right 0 (number 0 0xFF) (get_member (codes "recorded_value_support") (table_view c.args.table.now)) _ c.in_ok-number_or.ensures.value, inr (free_right [] text (get_member (codes "description") (table_view c.args.table.now)) _ c.in_ok-text_or_none.ensures.value, inl c.in_err-flag_or.ensures.wrong)))))))))))
