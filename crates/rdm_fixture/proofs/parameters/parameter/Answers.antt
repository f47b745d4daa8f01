use Rattle.std.proofs.Common.{◌≡◌, ℤ, Bool, Some, None, refl, sym, subst, inl, inr, codes, rules}
use Rattle.std.specs.Int.{w64}
use Rattle.std.proofs.lemmas.Int.{to_z-of_z}
use Rattle.toml.specs.Data.{get_member}
use Rattle.toml.specs.View.{table_view}
use Rattle.rdm_fixture.specs.FirstWrong.{said_parts}
use Rattle.rdm_profile.specs.declared.profile.own.Shape.{Shape}
use Rattle.rdm_profile.specs.declared.profile.own.Rights.{Rights}
use Rattle.rdm_fixture_keys.specs.Keys.{may, must}
use Rattle.rdm_fixture_keys.specs.Values.{integer_from, flag, named}
use Rattle.rdm_standard_names.specs.declared.kind.NameKind.TheVariants.{Prefixes, Units}
use Rattle.rdm_fixture.specs.Parameters.{SaysParameter, least_of, greatest_of, limit, low_in, high_in, start, is_setting}
use Rattle.rdm_fixture_keys.specs.Wrong.{FirstWrong}
use Rattle.rdm_fixture.proofs.OneFixture.{one}
use Rattle.rdm_fixture_keys.proofs.Parts.{exit, some, free_right}
use Rattle.rdm_fixture_keys.proofs.Readings.{Reads-err, none_said}
use Rattle.rdm_fixture.proofs.SaidParameters.{parameter_at}
use Rattle.rdm_fixture.proofs.parameters.parameter.Goals as goal

pub returns-in_err-pid-clause-wrong : goal.returns-in_err-pid-clause-wrong
returns-in_err-pid-clause-wrong c =
    exit (FirstWrong said_parts (table_view c.args.table.now)) _ _ c.from_residual-in_err-pid.ensures.1
    (inr (c.in_ok-only.ensures.variant.0 refl, inl c.in_err-pid.ensures.wrong))

pub returns-in_err-rights-clause-wrong : goal.returns-in_err-rights-clause-wrong
returns-in_err-rights-clause-wrong c =
    exit (FirstWrong said_parts (table_view c.args.table.now)) _ _ c.from_residual-in_err-rights.ensures.1
    (inr (c.in_ok-only.ensures.variant.0 refl, inr (some _ c.in_ok-pid.ensures.value, inl c.in_err-rights.ensures.wrong)))

pub returns-in_err-shape-clause-wrong : goal.returns-in_err-shape-clause-wrong
returns-in_err-shape-clause-wrong c =
    exit (FirstWrong said_parts (table_view c.args.table.now)) _ _ c.from_residual-in_err-shape.ensures.1
    (inr (c.in_ok-only.ensures.variant.0 refl, inr (some _ c.in_ok-pid.ensures.value, inr (some _ c.in_ok-rights.ensures.value, inl c.in_err-shape.ensures.wrong))))

pub returns-in_err-low-clause-wrong : goal.returns-in_err-low-clause-wrong
returns-in_err-low-clause-wrong c =
    exit (FirstWrong said_parts (table_view c.args.table.now)) _ _ c.from_residual-in_err-low.ensures.1
    (inr (c.in_ok-only.ensures.variant.0 refl, inr (some _ c.in_ok-pid.ensures.value, inr (some _ c.in_ok-rights.ensures.value, inr (some _ c.in_ok-shape.ensures.value, inl (c.in_ok-shape.shape, sym c.in_ok-shape.ensures.value, c.in_err-low.ensures.wrong))))))

pub returns-in_err-high-clause-wrong : goal.returns-in_err-high-clause-wrong
returns-in_err-high-clause-wrong c =
    let low = to_z-of_z w64 c.in_ok-low.low (search rules) in
    exit (FirstWrong said_parts (table_view c.args.table.now)) _ _ c.from_residual-in_err-high.ensures.1
    (inr (c.in_ok-only.ensures.variant.0 refl, inr (some _ c.in_ok-pid.ensures.value, inr (some _ c.in_ok-rights.ensures.value, inr (some _ c.in_ok-shape.ensures.value, inr ((c.in_ok-shape.shape, sym c.in_ok-shape.ensures.value, free_right (least_of c.in_ok-shape.shape) (limit c.in_ok-shape.shape) (get_member (codes "minimum_valid_value") (table_view c.args.table.now)) _ c.in_ok-low.ensures.value), inl (c.in_ok-shape.shape, sym c.in_ok-shape.ensures.value, (c.in_ok-low.low, sym c.in_ok-low.ensures.value, rw low at c.in_err-high.ensures.wrong))))))))

pub returns-in_err-fields-clause-wrong : goal.returns-in_err-fields-clause-wrong
returns-in_err-fields-clause-wrong c =
    let low = to_z-of_z w64 c.in_ok-low.low (search rules) in
    let high_value : Some c.in_ok-high.high ≡ high_in c.in_ok-shape.shape c.in_ok-low.low (table_view c.args.table.now) = rw low at c.in_ok-high.ensures.value in
    exit (FirstWrong said_parts (table_view c.args.table.now)) _ _ c.from_residual-in_err-fields.ensures.1
    (inr (c.in_ok-only.ensures.variant.0 refl, inr (some _ c.in_ok-pid.ensures.value, inr (some _ c.in_ok-rights.ensures.value, inr (some _ c.in_ok-shape.ensures.value, inr ((c.in_ok-shape.shape, sym c.in_ok-shape.ensures.value, free_right (least_of c.in_ok-shape.shape) (limit c.in_ok-shape.shape) (get_member (codes "minimum_valid_value") (table_view c.args.table.now)) _ c.in_ok-low.ensures.value), inr ((c.in_ok-shape.shape, sym c.in_ok-shape.ensures.value, (c.in_ok-low.low, sym c.in_ok-low.ensures.value, free_right (greatest_of c.in_ok-shape.shape) (integer_from c.in_ok-low.low (greatest_of c.in_ok-shape.shape)) (get_member (codes "maximum_valid_value") (table_view c.args.table.now)) _ high_value)), inl c.in_err-fields.ensures.wrong)))))))

pub returns-in_err-start-clause-wrong : goal.returns-in_err-start-clause-wrong
returns-in_err-start-clause-wrong c =
    let low = to_z-of_z w64 c.in_ok-low.low (search rules) in
    let high_value : Some c.in_ok-high.high ≡ high_in c.in_ok-shape.shape c.in_ok-low.low (table_view c.args.table.now) = rw low at c.in_ok-high.ensures.value in
    let high = to_z-of_z w64 c.in_ok-high.high (search rules) in
    exit (FirstWrong said_parts (table_view c.args.table.now)) _ _ c.from_residual-in_err-start.ensures.1
    (inr (c.in_ok-only.ensures.variant.0 refl, inr (some _ c.in_ok-pid.ensures.value, inr (some _ c.in_ok-rights.ensures.value, inr (some _ c.in_ok-shape.ensures.value, inr ((c.in_ok-shape.shape, sym c.in_ok-shape.ensures.value, free_right (least_of c.in_ok-shape.shape) (limit c.in_ok-shape.shape) (get_member (codes "minimum_valid_value") (table_view c.args.table.now)) _ c.in_ok-low.ensures.value), inr ((c.in_ok-shape.shape, sym c.in_ok-shape.ensures.value, (c.in_ok-low.low, sym c.in_ok-low.ensures.value, free_right (greatest_of c.in_ok-shape.shape) (integer_from c.in_ok-low.low (greatest_of c.in_ok-shape.shape)) (get_member (codes "maximum_valid_value") (table_view c.args.table.now)) _ high_value)), inr ((c.in_ok-fields.fields.items, c.in_ok-fields.ensures.read), inl (c.in_ok-shape.shape, sym c.in_ok-shape.ensures.value, (c.in_ok-low.low, sym c.in_ok-low.ensures.value, (c.in_ok-high.high, sym high_value, rw (low, high) at c.in_err-start.ensures.wrong)))))))))))

pub returns-in_err-unit-clause-wrong : goal.returns-in_err-unit-clause-wrong
returns-in_err-unit-clause-wrong c =
    let low = to_z-of_z w64 c.in_ok-low.low (search rules) in
    let high_value : Some c.in_ok-high.high ≡ high_in c.in_ok-shape.shape c.in_ok-low.low (table_view c.args.table.now) = rw low at c.in_ok-high.ensures.value in
    let high = to_z-of_z w64 c.in_ok-high.high (search rules) in
    let start_value : Some c.in_ok-start.start ≡ must (start c.in_ok-shape.shape c.in_ok-low.low c.in_ok-high.high) (get_member (codes "default_value") (table_view c.args.table.now)) = rw (low, high) at c.in_ok-start.ensures.value in
    exit (FirstWrong said_parts (table_view c.args.table.now)) _ _ c.from_residual-in_err-unit.ensures.1
    (inr (c.in_ok-only.ensures.variant.0 refl, inr (some _ c.in_ok-pid.ensures.value, inr (some _ c.in_ok-rights.ensures.value, inr (some _ c.in_ok-shape.ensures.value, inr ((c.in_ok-shape.shape, sym c.in_ok-shape.ensures.value, free_right (least_of c.in_ok-shape.shape) (limit c.in_ok-shape.shape) (get_member (codes "minimum_valid_value") (table_view c.args.table.now)) _ c.in_ok-low.ensures.value), inr ((c.in_ok-shape.shape, sym c.in_ok-shape.ensures.value, (c.in_ok-low.low, sym c.in_ok-low.ensures.value, free_right (greatest_of c.in_ok-shape.shape) (integer_from c.in_ok-low.low (greatest_of c.in_ok-shape.shape)) (get_member (codes "maximum_valid_value") (table_view c.args.table.now)) _ high_value)), inr ((c.in_ok-fields.fields.items, c.in_ok-fields.ensures.read), inr ((c.in_ok-shape.shape, sym c.in_ok-shape.ensures.value, (c.in_ok-low.low, sym c.in_ok-low.ensures.value, (c.in_ok-high.high, sym high_value, some _ start_value))), inl c.in_err-unit.ensures.wrong)))))))))

pub returns-in_err-prefix-clause-wrong : goal.returns-in_err-prefix-clause-wrong
returns-in_err-prefix-clause-wrong c =
    let low = to_z-of_z w64 c.in_ok-low.low (search rules) in
    let high_value : Some c.in_ok-high.high ≡ high_in c.in_ok-shape.shape c.in_ok-low.low (table_view c.args.table.now) = rw low at c.in_ok-high.ensures.value in
    let high = to_z-of_z w64 c.in_ok-high.high (search rules) in
    let start_value : Some c.in_ok-start.start ≡ must (start c.in_ok-shape.shape c.in_ok-low.low c.in_ok-high.high) (get_member (codes "default_value") (table_view c.args.table.now)) = rw (low, high) at c.in_ok-start.ensures.value in
    exit (FirstWrong said_parts (table_view c.args.table.now)) _ _ c.from_residual-in_err-prefix.ensures.1
    (inr (c.in_ok-only.ensures.variant.0 refl, inr (some _ c.in_ok-pid.ensures.value, inr (some _ c.in_ok-rights.ensures.value, inr (some _ c.in_ok-shape.ensures.value, inr ((c.in_ok-shape.shape, sym c.in_ok-shape.ensures.value, free_right (least_of c.in_ok-shape.shape) (limit c.in_ok-shape.shape) (get_member (codes "minimum_valid_value") (table_view c.args.table.now)) _ c.in_ok-low.ensures.value), inr ((c.in_ok-shape.shape, sym c.in_ok-shape.ensures.value, (c.in_ok-low.low, sym c.in_ok-low.ensures.value, free_right (greatest_of c.in_ok-shape.shape) (integer_from c.in_ok-low.low (greatest_of c.in_ok-shape.shape)) (get_member (codes "maximum_valid_value") (table_view c.args.table.now)) _ high_value)), inr ((c.in_ok-fields.fields.items, c.in_ok-fields.ensures.read), inr ((c.in_ok-shape.shape, sym c.in_ok-shape.ensures.value, (c.in_ok-low.low, sym c.in_ok-low.ensures.value, (c.in_ok-high.high, sym high_value, some _ start_value))), inr (free_right 0 (named Units) (get_member (codes "unit") (table_view c.args.table.now)) _ c.in_ok-unit.ensures.value, inl c.in_err-prefix.ensures.wrong))))))))))

pub returns-in_err-resets-clause-wrong : goal.returns-in_err-resets-clause-wrong
returns-in_err-resets-clause-wrong c =
    let low = to_z-of_z w64 c.in_ok-low.low (search rules) in
    let high_value : Some c.in_ok-high.high ≡ high_in c.in_ok-shape.shape c.in_ok-low.low (table_view c.args.table.now) = rw low at c.in_ok-high.ensures.value in
    let high = to_z-of_z w64 c.in_ok-high.high (search rules) in
    let start_value : Some c.in_ok-start.start ≡ must (start c.in_ok-shape.shape c.in_ok-low.low c.in_ok-high.high) (get_member (codes "default_value") (table_view c.args.table.now)) = rw (low, high) at c.in_ok-start.ensures.value in
    exit (FirstWrong said_parts (table_view c.args.table.now)) _ _ c.from_residual-in_err-resets.ensures.1
    (inr (c.in_ok-only.ensures.variant.0 refl, inr (some _ c.in_ok-pid.ensures.value, inr (some _ c.in_ok-rights.ensures.value, inr (some _ c.in_ok-shape.ensures.value, inr ((c.in_ok-shape.shape, sym c.in_ok-shape.ensures.value, free_right (least_of c.in_ok-shape.shape) (limit c.in_ok-shape.shape) (get_member (codes "minimum_valid_value") (table_view c.args.table.now)) _ c.in_ok-low.ensures.value), inr ((c.in_ok-shape.shape, sym c.in_ok-shape.ensures.value, (c.in_ok-low.low, sym c.in_ok-low.ensures.value, free_right (greatest_of c.in_ok-shape.shape) (integer_from c.in_ok-low.low (greatest_of c.in_ok-shape.shape)) (get_member (codes "maximum_valid_value") (table_view c.args.table.now)) _ high_value)), inr ((c.in_ok-fields.fields.items, c.in_ok-fields.ensures.read), inr ((c.in_ok-shape.shape, sym c.in_ok-shape.ensures.value, (c.in_ok-low.low, sym c.in_ok-low.ensures.value, (c.in_ok-high.high, sym high_value, some _ start_value))), inr (free_right 0 (named Units) (get_member (codes "unit") (table_view c.args.table.now)) _ c.in_ok-unit.ensures.value, inr (free_right 0 (named Prefixes) (get_member (codes "prefix") (table_view c.args.table.now)) _ c.in_ok-prefix.ensures.value, inl c.in_err-resets.ensures.wrong)))))))))))

pub returns-in_err-name-clause-wrong : goal.returns-in_err-name-clause-wrong
returns-in_err-name-clause-wrong c =
    let low = to_z-of_z w64 c.in_ok-low.low (search rules) in
    let high_value : Some c.in_ok-high.high ≡ high_in c.in_ok-shape.shape c.in_ok-low.low (table_view c.args.table.now) = rw low at c.in_ok-high.ensures.value in
    let high = to_z-of_z w64 c.in_ok-high.high (search rules) in
    let start_value : Some c.in_ok-start.start ≡ must (start c.in_ok-shape.shape c.in_ok-low.low c.in_ok-high.high) (get_member (codes "default_value") (table_view c.args.table.now)) = rw (low, high) at c.in_ok-start.ensures.value in
    exit (FirstWrong said_parts (table_view c.args.table.now)) _ _ c.from_residual-in_err-name.ensures.1
    (inr (c.in_ok-only.ensures.variant.0 refl, inr (some _ c.in_ok-pid.ensures.value, inr (some _ c.in_ok-rights.ensures.value, inr (some _ c.in_ok-shape.ensures.value, inr ((c.in_ok-shape.shape, sym c.in_ok-shape.ensures.value, free_right (least_of c.in_ok-shape.shape) (limit c.in_ok-shape.shape) (get_member (codes "minimum_valid_value") (table_view c.args.table.now)) _ c.in_ok-low.ensures.value), inr ((c.in_ok-shape.shape, sym c.in_ok-shape.ensures.value, (c.in_ok-low.low, sym c.in_ok-low.ensures.value, free_right (greatest_of c.in_ok-shape.shape) (integer_from c.in_ok-low.low (greatest_of c.in_ok-shape.shape)) (get_member (codes "maximum_valid_value") (table_view c.args.table.now)) _ high_value)), inr ((c.in_ok-fields.fields.items, c.in_ok-fields.ensures.read), inr ((c.in_ok-shape.shape, sym c.in_ok-shape.ensures.value, (c.in_ok-low.low, sym c.in_ok-low.ensures.value, (c.in_ok-high.high, sym high_value, some _ start_value))), inr (free_right 0 (named Units) (get_member (codes "unit") (table_view c.args.table.now)) _ c.in_ok-unit.ensures.value, inr (free_right 0 (named Prefixes) (get_member (codes "prefix") (table_view c.args.table.now)) _ c.in_ok-prefix.ensures.value, inr (free_right _ flag (get_member (codes "factory_defaults") (table_view c.args.table.now)) _ c.in_ok-resets.ensures.value, inl c.in_err-name.ensures.wrong))))))))))))

pub returns-in_err-low-clause-read : goal.returns-in_err-low-clause-read
returns-in_err-low-clause-read c =
    Reads-err SaysParameter _ _ c.from_residual-in_err-low.ensures.0 (λ d h.
    let shape : d.shape ≡ c.in_ok-shape.shape = one h.shape (sym c.in_ok-shape.ensures.value) in
    let said_low : low_in c.in_ok-shape.shape (table_view c.args.table.now) ≡ Some d.low = subst (λ (s : Shape). low_in s (table_view c.args.table.now) ≡ Some d.low) shape h.low in
    none_said d.low c.in_err-low.ensures.value said_low)

pub returns-in_err-high-clause-read : goal.returns-in_err-high-clause-read
returns-in_err-high-clause-read c =
    let low = to_z-of_z w64 c.in_ok-low.low (search rules) in
    let none : None ≡ high_in c.in_ok-shape.shape c.in_ok-low.low (table_view c.args.table.now) = rw low at c.in_err-high.ensures.value in
    Reads-err SaysParameter _ _ c.from_residual-in_err-high.ensures.0 (λ d h.
    let shape : d.shape ≡ c.in_ok-shape.shape = one h.shape (sym c.in_ok-shape.ensures.value) in
    let said_low : low_in c.in_ok-shape.shape (table_view c.args.table.now) ≡ Some d.low = subst (λ (s : Shape). low_in s (table_view c.args.table.now) ≡ Some d.low) shape h.low in
    let same_low : d.low ≡ c.in_ok-low.low = one said_low (sym c.in_ok-low.ensures.value) in
    let said_high : high_in c.in_ok-shape.shape c.in_ok-low.low (table_view c.args.table.now) ≡ Some d.high =
    subst (λ (l : ℤ). high_in c.in_ok-shape.shape l (table_view c.args.table.now) ≡ Some d.high) same_low (subst (λ (s : Shape). high_in s d.low (table_view c.args.table.now) ≡ Some d.high) shape h.high) in
    none_said d.high none said_high)

pub returns-in_err-fields-clause-read : goal.returns-in_err-fields-clause-read
returns-in_err-fields-clause-read c =
    Reads-err SaysParameter _ _ c.from_residual-in_err-fields.ensures.0 (λ d h. c.in_err-fields.ensures.read d.fields h.fields)

pub returns-in_err-start-clause-read : goal.returns-in_err-start-clause-read
returns-in_err-start-clause-read c =
    let low = to_z-of_z w64 c.in_ok-low.low (search rules) in
    let high_value : Some c.in_ok-high.high ≡ high_in c.in_ok-shape.shape c.in_ok-low.low (table_view c.args.table.now) = rw low at c.in_ok-high.ensures.value in
    let high = to_z-of_z w64 c.in_ok-high.high (search rules) in
    let none : None ≡ must (start c.in_ok-shape.shape c.in_ok-low.low c.in_ok-high.high) (get_member (codes "default_value") (table_view c.args.table.now)) = rw (low, high) at c.in_err-start.ensures.value in
    Reads-err SaysParameter _ _ c.from_residual-in_err-start.ensures.0 (λ d h.
    let shape : d.shape ≡ c.in_ok-shape.shape = one h.shape (sym c.in_ok-shape.ensures.value) in
    let said_low : low_in c.in_ok-shape.shape (table_view c.args.table.now) ≡ Some d.low = subst (λ (s : Shape). low_in s (table_view c.args.table.now) ≡ Some d.low) shape h.low in
    let same_low : d.low ≡ c.in_ok-low.low = one said_low (sym c.in_ok-low.ensures.value) in
    let said_high : high_in c.in_ok-shape.shape c.in_ok-low.low (table_view c.args.table.now) ≡ Some d.high =
    subst (λ (l : ℤ). high_in c.in_ok-shape.shape l (table_view c.args.table.now) ≡ Some d.high) same_low (subst (λ (s : Shape). high_in s d.low (table_view c.args.table.now) ≡ Some d.high) shape h.high) in
    let same_high : d.high ≡ c.in_ok-high.high = one said_high (sym high_value) in
    let found = get_member (codes "default_value") (table_view c.args.table.now) in
    let said_start : must (start c.in_ok-shape.shape c.in_ok-low.low c.in_ok-high.high) found ≡ Some d.start =
    subst (λ (k : ℤ). must (start c.in_ok-shape.shape c.in_ok-low.low k) found ≡ Some d.start) same_high
    (subst (λ (l : ℤ). must (start c.in_ok-shape.shape l d.high) found ≡ Some d.start) same_low (subst (λ (s : Shape). must (start s d.low d.high) found ≡ Some d.start) shape h.start)) in
    none_said d.start none said_start)

pub returns-in_err-resets-clause-read : goal.returns-in_err-resets-clause-read
returns-in_err-resets-clause-read c =
    Reads-err SaysParameter _ _ c.from_residual-in_err-resets.ensures.0 (λ d h.
    let rights : d.rights ≡ c.in_ok-rights.rights = one h.rights (sym c.in_ok-rights.ensures.value) in
    let shape : d.shape ≡ c.in_ok-shape.shape = one h.shape (sym c.in_ok-shape.ensures.value) in
    let found = get_member (codes "factory_defaults") (table_view c.args.table.now) in
    let said : may (is_setting c.in_ok-rights.rights c.in_ok-shape.shape) flag found ≡ Some d.resets =
    subst (λ (s : Shape). may (is_setting c.in_ok-rights.rights s) flag found ≡ Some d.resets) shape
    (subst (λ (r : Rights). may (is_setting r d.shape) flag found ≡ Some d.resets) rights h.resets) in
    none_said d.resets c.in_err-resets.ensures.value (subst (λ (b : Bool). may b flag found ≡ Some d.resets) (sym c.is_setting.ensures) said))

pub returns-clause-read : goal.returns-clause-read
returns-clause-read c =
    let low = to_z-of_z w64 c.in_ok-low.low (search rules) in
    let high_value : Some c.in_ok-high.high ≡ high_in c.in_ok-shape.shape c.in_ok-low.low (table_view c.args.table.now) = rw low at c.in_ok-high.ensures.value in
    let high = to_z-of_z w64 c.in_ok-high.high (search rules) in
    let start_value : Some c.in_ok-start.start ≡ must (start c.in_ok-shape.shape c.in_ok-low.low c.in_ok-high.high) (get_member (codes "default_value") (table_view c.args.table.now)) = rw (low, high) at c.in_ok-start.ensures.value in
    let found = get_member (codes "factory_defaults") (table_view c.args.table.now) in
    parameter_at (table_view c.args.table.now) c.in_ok-pid.pid c.in_ok-rights.rights c.in_ok-shape.shape c.in_ok-low.low c.in_ok-high.high _ _ c.in_ok-fields.fields c.in_ok-start.start _ _ _ _ low high
    (c.in_ok-only.ensures.variant.0 refl) (sym c.in_ok-pid.ensures.value) (sym c.in_ok-rights.ensures.value) (sym c.in_ok-shape.ensures.value)
    (sym c.in_ok-low.ensures.value) (sym high_value) c.in_ok-fields.ensures.read (sym start_value) (search rules) (search rules)
    (subst (λ (b : Bool). may b flag found ≡ Some c.in_ok-resets.resets) c.is_setting.ensures (sym c.in_ok-resets.ensures.value)) (search rules)
