use Rattle.std.proofs.Common.{rules, ◌≡◌, Some, None, refl, inl, inr, codes}
use Rattle.toml.specs.Data.{get_member}
use Rattle.toml.specs.View.{table_view}
use Rattle.rdm_profile.specs.declared.profile.workers.Worker.TheVariants.{First, Second}
use Rattle.rdm_fixture_keys.specs.Keys.{may}
use Rattle.rdm_fixture_keys.specs.Values.{worker}
use Rattle.rdm_fixture_keys.proofs.Parts.{free_none, free_right}
use Rattle.rdm_fixture.proofs.workers.choice_of.Goals as goal

pub returns-in_default-clause-wrong : goal.returns-in_default-clause-wrong
returns-in_default-clause-wrong c =
    let none : may First worker (get_member (codes "lamp_state") (table_view c.args.table.now)) ≡ None = search rules in
    inr (c.in_ok-only.ensures.variant.0 refl, inl (free_none First worker (get_member (codes "lamp_state") (table_view c.args.table.now)) none, c.at.ensures))

pub returns-in_default-worker-clause-wrong : goal.returns-in_default-worker-clause-wrong
returns-in_default-worker-clause-wrong c =
    let lamp : Some c.in-Some.lamp ≡ may First worker (get_member (codes "lamp_state") (table_view c.args.table.now)) = search rules in
    let none : may First worker (get_member (codes "power_state") (table_view c.args.table.now)) ≡ None = search rules in
    inr (c.in_ok-only.ensures.variant.0 refl, inr (free_right First worker (get_member (codes "lamp_state") (table_view c.args.table.now)) _ lamp, inl (free_none First worker (get_member (codes "power_state") (table_view c.args.table.now)) none, c.at-in_default-worker.ensures)))

pub returns-in_default-worker-2-clause-wrong : goal.returns-in_default-worker-2-clause-wrong
returns-in_default-worker-2-clause-wrong c =
    let lamp : Some c.in-Some.lamp ≡ may First worker (get_member (codes "lamp_state") (table_view c.args.table.now)) = search rules in
    let power : Some c.in-Some-worker.power ≡ may First worker (get_member (codes "power_state") (table_view c.args.table.now)) = search rules in
    let none : may Second worker (get_member (codes "perform_selftest") (table_view c.args.table.now)) ≡ None = search rules in
    inr (c.in_ok-only.ensures.variant.0 refl, inr (free_right First worker (get_member (codes "lamp_state") (table_view c.args.table.now)) _ lamp, inr (free_right First worker (get_member (codes "power_state") (table_view c.args.table.now)) _ power, inl (free_none Second worker (get_member (codes "perform_selftest") (table_view c.args.table.now)) none, c.at-in_default-worker-2.ensures))))

pub returns-in_default-worker-3-clause-wrong : goal.returns-in_default-worker-3-clause-wrong
returns-in_default-worker-3-clause-wrong c =
    let lamp : Some c.in-Some.lamp ≡ may First worker (get_member (codes "lamp_state") (table_view c.args.table.now)) = search rules in
    let power : Some c.in-Some-worker.power ≡ may First worker (get_member (codes "power_state") (table_view c.args.table.now)) = search rules in
    let self_test : Some c.in-Some-worker-2.self_test ≡ may Second worker (get_member (codes "perform_selftest") (table_view c.args.table.now)) = search rules in
    let none : may Second worker (get_member (codes "sensor_value") (table_view c.args.table.now)) ≡ None = search rules in
    inr (c.in_ok-only.ensures.variant.0 refl, inr (free_right First worker (get_member (codes "lamp_state") (table_view c.args.table.now)) _ lamp, inr (free_right First worker (get_member (codes "power_state") (table_view c.args.table.now)) _ power, inr (free_right Second worker (get_member (codes "perform_selftest") (table_view c.args.table.now)) _ self_test, inl (free_none Second worker (get_member (codes "sensor_value") (table_view c.args.table.now)) none, c.at-in_default-worker-3.ensures)))))
