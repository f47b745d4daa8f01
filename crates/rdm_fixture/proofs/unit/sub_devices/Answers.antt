use Rattle.std.proofs.Common.{◌≡◌, Some, codes}
use Rattle.toml.specs.Data.{table, get_member}
use Rattle.toml.specs.View.{table_view}
use Rattle.rdm_fixture_keys.specs.Faults.{told}
use Rattle.rdm_fixture.proofs.ListEntries.{found_table}
use Rattle.rdm_fixture.proofs.unit.sub_devices.Goals as goal

pub returns-in-Ok-clause-read : goal.returns-in-Ok-clause-read
returns-in-Ok-clause-read c =
    let found : get_member (codes "sub_devices") (table_view c.args.table.now) ≡ Some (table (table_view c.in-Table.sub)) =
    found_table _ _ _ _ c.find.ensures c.in-Some.is c.in-Table.is in
    rw found c.in-Ok.ensures.read

pub returns-in-Err-clause-read : goal.returns-in-Err-clause-read
returns-in-Err-clause-read c =
    let found : get_member (codes "sub_devices") (table_view c.args.table.now) ≡ Some (table (table_view c.in-Table.sub)) =
    found_table _ _ _ _ c.find.ensures c.in-Some.is c.in-Table.is in
    λ s h. c.in-Err.ensures.read s (rw found at h)

pub returns-in_err-unit-clause-wrong : goal.returns-in_err-unit-clause-wrong
returns-in_err-unit-clause-wrong c = absurd (c.in_err-unit.ensures.read c.requires.0 c.requires.1)

pub returns-in-Err-clause-wrong : goal.returns-in-Err-clause-wrong
returns-in-Err-clause-wrong c =
    let found : get_member (codes "sub_devices") (table_view c.args.table.now) ≡ Some (table (table_view c.in-Table.sub)) =
    found_table _ _ _ _ c.find.ensures c.in-Some.is c.in-Table.is in
    rw found (told c.in-Err.refusal, c.in-Err.ensures.wrong, c.in_section.ensures)
