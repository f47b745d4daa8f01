use Rattle.std.proofs.Common.{◌≡◌, ap, ◌∙◌}
use Rattle.toml.specs.Data.{table}
use Rattle.toml.specs.View.{view, table_view}
use Rattle.toml.proofs.Views.{view-Table}
use Rattle.rdm_fixture.proofs.lists.entry_of.Goals as goal

pub returns-in-Table-clause-read : goal.returns-in-Table-clause-read
returns-in-Table-clause-read g c =
    let seen : view c.args.entry.now ≡ table (table_view c.in-Table.table) = ap view c.in-Table.is ∙ view-Table c.in-Table.table in
    rw seen c.from_entry.ensures.read
