use Rattle.std.proofs.Common.{rules, ◌≡◌, Some, None, false, inl, inr, codes}
use Rattle.toml.specs.Data.{get_member}
use Rattle.toml.specs.View.{table_view}
use Rattle.rdm_fixture_keys.specs.Keys.{may}
use Rattle.rdm_fixture_keys.specs.Values.{flag, only_uid}
use Rattle.rdm_fixture_keys.proofs.Parts.{free_none, free_right}
use Rattle.rdm_fixture.proofs.muting.mute_reply.Goals as goal

pub returns-in_default-clause-wrong : goal.returns-in_default-clause-wrong
returns-in_default-clause-wrong c =
    let none : may None only_uid (get_member (codes "binding_uid") (table_view c.args.table.now)) ≡ None = search rules in
    inl (free_none None only_uid (get_member (codes "binding_uid") (table_view c.args.table.now)) none, c.at.ensures)

pub returns-in_default-flag-clause-wrong : goal.returns-in_default-flag-clause-wrong
returns-in_default-flag-clause-wrong c =
    let bound : Some c.in-Some.binding ≡ may None only_uid (get_member (codes "binding_uid") (table_view c.args.table.now)) = search rules in
    let none : may false flag (get_member (codes "boot_loader") (table_view c.args.table.now)) ≡ None = search rules in
    inr (free_right None only_uid (get_member (codes "binding_uid") (table_view c.args.table.now)) _ bound, inl (free_none false flag (get_member (codes "boot_loader") (table_view c.args.table.now)) none, c.at-in_default-flag.ensures))

pub returns-in_default-flag-2-clause-wrong : goal.returns-in_default-flag-2-clause-wrong
returns-in_default-flag-2-clause-wrong c =
    let bound : Some c.in-Some.binding ≡ may None only_uid (get_member (codes "binding_uid") (table_view c.args.table.now)) = search rules in
    let boot : Some c.in-Some-flag.boot_loader ≡ may false flag (get_member (codes "boot_loader") (table_view c.args.table.now)) = search rules in
    let none : may false flag (get_member (codes "proxied_device") (table_view c.args.table.now)) ≡ None = search rules in
    inr (free_right None only_uid (get_member (codes "binding_uid") (table_view c.args.table.now)) _ bound, inr (free_right false flag (get_member (codes "boot_loader") (table_view c.args.table.now)) _ boot, inl (free_none false flag (get_member (codes "proxied_device") (table_view c.args.table.now)) none, c.at-in_default-flag-2.ensures)))
