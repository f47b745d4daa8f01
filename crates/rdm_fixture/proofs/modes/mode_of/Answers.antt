use Rattle.std.proofs.Common.{◌≡◌, ap, ◌∙◌}
use Rattle.toml.specs.Data.{table}
use Rattle.toml.specs.View.{view, table_view}
use Rattle.toml.proofs.Views.{view-Table}
use Rattle.rdm_fixture.proofs.OwnSlots.{before_memory}
use Rattle.rdm_fixture.proofs.modes.mode_of.Goals as goal

pub unreachable-requires-in_default-said_mode : goal.unreachable-requires-in_default-said_mode
unreachable-requires-in_default-said_mode c =
    let seen : view c.args.entry.now ≡ table (table_view c.in-Table.table) = ap view c.in-Table.is ∙ view-Table c.in-Table.table in
    c.in_default-said_mode.ensures.read (before_memory c.requires.0) (rw seen at c.requires.1)
