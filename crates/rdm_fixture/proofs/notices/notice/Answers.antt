use Rattle.std.proofs.Common.{rules, ◌≡◌, ℕ, ◌⊎◌, pos, List, Option, Some, None, refl, inl, inr, codes}
use Rattle.toml.specs.Data.{Data, get_member}
use Rattle.toml.specs.View.{table_view}
use Rattle.rdm_fixture.specs.Notices.{lacking}
use Rattle.rdm_fixture.specs.Outcomes.{only_number, severity}
use Rattle.rdm_fixture_keys.specs.declared.refusal.Wanted.{Wanted}
use Rattle.rdm_fixture_keys.specs.declared.refusal.Wanted.TheVariants as wanted
use Rattle.rdm_fixture_keys.specs.Faults.{Fault, fault}
use Rattle.rdm_fixture_keys.specs.Keys.{must, may}
use Rattle.rdm_fixture_keys.specs.Values.{number}
use Rattle.rdm_fixture_keys.specs.Wrong.{SaysNone}
use Rattle.rdm_fixture_keys.proofs.Parts.{some, free_none, free_right}
use Rattle.rdm_fixture.proofs.notices.notice.Goals as goal

-- a key that has to be there is missing, or says nothing
needed_wrong : {A : Type 0} (key : List ℕ) (says : Data → Option A) (w : Wanted) (found : Option Data) (f : Fault) → must says found ≡ None
    → f ≡ fault key (lacking found w) → ((found ≡ None) × (f ≡ fault key wanted.Key)) ⊎ (SaysNone says found × (f ≡ fault key w))
needed_wrong key says w None f none is = inl (refl, is)
needed_wrong key says w (Some d) f none is = inr (none, is)

pub returns-in_default-clause-wrong : goal.returns-in_default-clause-wrong
returns-in_default-clause-wrong c =
    let none : must (number 0 0xFFFFFFFF) (get_member (codes "at") (table_view c.args.table.now)) ≡ None = search rules in
    inr (c.in_ok-only.ensures.variant.0 refl, inl (needed_wrong (codes "at") (number 0 0xFFFFFFFF) (wanted.Number (pos 0) (pos 0xFFFFFFFF)) (get_member (codes "at") (table_view c.args.table.now)) _ none c.lacking.ensures))

pub returns-in_default-every-clause-wrong : goal.returns-in_default-every-clause-wrong
returns-in_default-every-clause-wrong c =
    let has_at : Some c.in-Some.at ≡ must (number 0 0xFFFFFFFF) (get_member (codes "at") (table_view c.args.table.now)) = search rules in
    let none : may None (only_number 1 0xFFFFFFFF) (get_member (codes "every") (table_view c.args.table.now)) ≡ None = search rules in
    inr (c.in_ok-only.ensures.variant.0 refl, inr (some _ has_at, inl (free_none None (only_number 1 0xFFFFFFFF) (get_member (codes "every") (table_view c.args.table.now)) none, c.out_of_range.ensures)))

pub returns-in_default-sub_device-clause-wrong : goal.returns-in_default-sub_device-clause-wrong
returns-in_default-sub_device-clause-wrong c =
    let has_at : Some c.in-Some.at ≡ must (number 0 0xFFFFFFFF) (get_member (codes "at") (table_view c.args.table.now)) = search rules in
    let has_every : Some c.in-Some-every.every ≡ may None (only_number 1 0xFFFFFFFF) (get_member (codes "every") (table_view c.args.table.now)) = search rules in
    let none : may 0 (number 0 512) (get_member (codes "sub_device") (table_view c.args.table.now)) ≡ None = search rules in
    inr (c.in_ok-only.ensures.variant.0 refl, inr (some _ has_at, inr (free_right None (only_number 1 0xFFFFFFFF) (get_member (codes "every") (table_view c.args.table.now)) _ has_every, inl (free_none 0 (number 0 512) (get_member (codes "sub_device") (table_view c.args.table.now)) none, c.out_of_range-in_default-sub_device.ensures))))

pub returns-in_default-severity-clause-wrong : goal.returns-in_default-severity-clause-wrong
returns-in_default-severity-clause-wrong c =
    let has_at : Some c.in-Some.at ≡ must (number 0 0xFFFFFFFF) (get_member (codes "at") (table_view c.args.table.now)) = search rules in
    let has_every : Some c.in-Some-every.every ≡ may None (only_number 1 0xFFFFFFFF) (get_member (codes "every") (table_view c.args.table.now)) = search rules in
    let has_sub : Some c.in-Some-sub_device.sub ≡ may 0 (number 0 512) (get_member (codes "sub_device") (table_view c.args.table.now)) = search rules in
    let none : must severity (get_member (codes "severity") (table_view c.args.table.now)) ≡ None = search rules in
    inr (c.in_ok-only.ensures.variant.0 refl, inr (some _ has_at, inr (free_right None (only_number 1 0xFFFFFFFF) (get_member (codes "every") (table_view c.args.table.now)) _ has_every, inr (free_right 0 (number 0 512) (get_member (codes "sub_device") (table_view c.args.table.now)) _ has_sub, inl (needed_wrong (codes "severity") severity (wanted.Severity) (get_member (codes "severity") (table_view c.args.table.now)) _ none c.lacking-in_default-severity.ensures)))))

pub returns-in_default-status_id-clause-wrong : goal.returns-in_default-status_id-clause-wrong
returns-in_default-status_id-clause-wrong c =
    let has_at : Some c.in-Some.at ≡ must (number 0 0xFFFFFFFF) (get_member (codes "at") (table_view c.args.table.now)) = search rules in
    let has_every : Some c.in-Some-every.every ≡ may None (only_number 1 0xFFFFFFFF) (get_member (codes "every") (table_view c.args.table.now)) = search rules in
    let has_sub : Some c.in-Some-sub_device.sub ≡ may 0 (number 0 512) (get_member (codes "sub_device") (table_view c.args.table.now)) = search rules in
    let has_severity : Some c.in-Some-severity.severity ≡ must severity (get_member (codes "severity") (table_view c.args.table.now)) = search rules in
    let none : must (number 0 0xFFFF) (get_member (codes "status_id") (table_view c.args.table.now)) ≡ None = search rules in
    inr (c.in_ok-only.ensures.variant.0 refl, inr (some _ has_at, inr (free_right None (only_number 1 0xFFFFFFFF) (get_member (codes "every") (table_view c.args.table.now)) _ has_every, inr (free_right 0 (number 0 512) (get_member (codes "sub_device") (table_view c.args.table.now)) _ has_sub, inr (some _ has_severity, inl (needed_wrong (codes "status_id") (number 0 0xFFFF) (wanted.Number (pos 0) (pos 0xFFFF)) (get_member (codes "status_id") (table_view c.args.table.now)) _ none c.lacking-in_default-status_id.ensures))))))

pub returns-in_default-data_value-clause-wrong : goal.returns-in_default-data_value-clause-wrong
returns-in_default-data_value-clause-wrong c =
    let has_at : Some c.in-Some.at ≡ must (number 0 0xFFFFFFFF) (get_member (codes "at") (table_view c.args.table.now)) = search rules in
    let has_every : Some c.in-Some-every.every ≡ may None (only_number 1 0xFFFFFFFF) (get_member (codes "every") (table_view c.args.table.now)) = search rules in
    let has_sub : Some c.in-Some-sub_device.sub ≡ may 0 (number 0 512) (get_member (codes "sub_device") (table_view c.args.table.now)) = search rules in
    let has_severity : Some c.in-Some-severity.severity ≡ must severity (get_member (codes "severity") (table_view c.args.table.now)) = search rules in
    let has_id : Some c.in-Some-status_id.id ≡ must (number 0 0xFFFF) (get_member (codes "status_id") (table_view c.args.table.now)) = search rules in
    let none : may 0 (number 0 0xFFFF) (get_member (codes "data_value_1") (table_view c.args.table.now)) ≡ None = search rules in
    inr (c.in_ok-only.ensures.variant.0 refl, inr (some _ has_at, inr (free_right None (only_number 1 0xFFFFFFFF) (get_member (codes "every") (table_view c.args.table.now)) _ has_every, inr (free_right 0 (number 0 512) (get_member (codes "sub_device") (table_view c.args.table.now)) _ has_sub, inr (some _ has_severity, inr (some _ has_id, inl (free_none 0 (number 0 0xFFFF) (get_member (codes "data_value_1") (table_view c.args.table.now)) none, c.out_of_range-in_default-data_value.ensures)))))))

pub returns-in_default-data_value-2-clause-wrong : goal.returns-in_default-data_value-2-clause-wrong
returns-in_default-data_value-2-clause-wrong c =
    let has_at : Some c.in-Some.at ≡ must (number 0 0xFFFFFFFF) (get_member (codes "at") (table_view c.args.table.now)) = search rules in
    let has_every : Some c.in-Some-every.every ≡ may None (only_number 1 0xFFFFFFFF) (get_member (codes "every") (table_view c.args.table.now)) = search rules in
    let has_sub : Some c.in-Some-sub_device.sub ≡ may 0 (number 0 512) (get_member (codes "sub_device") (table_view c.args.table.now)) = search rules in
    let has_severity : Some c.in-Some-severity.severity ≡ must severity (get_member (codes "severity") (table_view c.args.table.now)) = search rules in
    let has_id : Some c.in-Some-status_id.id ≡ must (number 0 0xFFFF) (get_member (codes "status_id") (table_view c.args.table.now)) = search rules in
    let has_v1 : Some c.in-Some-data_value.v1 ≡ may 0 (number 0 0xFFFF) (get_member (codes "data_value_1") (table_view c.args.table.now)) = search rules in
    let none : may 0 (number 0 0xFFFF) (get_member (codes "data_value_2") (table_view c.args.table.now)) ≡ None = search rules in
    inr (c.in_ok-only.ensures.variant.0 refl, inr (some _ has_at, inr (free_right None (only_number 1 0xFFFFFFFF) (get_member (codes "every") (table_view c.args.table.now)) _ has_every, inr (free_right 0 (number 0 512) (get_member (codes "sub_device") (table_view c.args.table.now)) _ has_sub, inr (some _ has_severity, inr (some _ has_id, inr (free_right 0 (number 0 0xFFFF) (get_member (codes "data_value_1") (table_view c.args.table.now)) _ has_v1, inl (free_none 0 (number 0 0xFFFF) (get_member (codes "data_value_2") (table_view c.args.table.now)) none, c.out_of_range-in_default-data_value-2.ensures))))))))
