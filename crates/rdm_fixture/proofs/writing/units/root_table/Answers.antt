use Rattle.std.proofs.Common.{refl}
use Rattle.toml.specs.View.{table_view}
use Rattle.rdm_fixture.proofs.WrittenUnits.{root_says, root_counted, root_only, root_plain}
use Rattle.rdm_fixture.proofs.writing.units.root_table.Goals as goal

pub returns-clause-says : goal.returns-clause-says
returns-clause-says c = λ slots good texts.
    rw (c.in_ok-put_long-4.ensures.put refl, c.in_ok-put_long-3.ensures.put refl, c.in_ok-put_long-2.ensures.put refl, c.in_ok-put_long.ensures.put refl)
    (root_says (table_view c.in_ok-table.table) c.args.start.now slots c.args.root.now (c.in_ok-table.ensures.says slots good texts))

pub returns-clause-counted : goal.returns-clause-counted
returns-clause-counted c =
    rw (c.in_ok-put_long-4.ensures.put refl, c.in_ok-put_long-3.ensures.put refl, c.in_ok-put_long-2.ensures.put refl, c.in_ok-put_long.ensures.put refl)
    (root_counted (table_view c.in_ok-table.table) c.args.start.now c.put_long.ensures.says c.put_long-2.ensures.says c.put_long-3.ensures.says c.put_long-4.ensures.says)

pub returns-clause-keys : goal.returns-clause-keys
returns-clause-keys c =
    rw (c.in_ok-put_long-4.ensures.put refl, c.in_ok-put_long-3.ensures.put refl, c.in_ok-put_long-2.ensures.put refl, c.in_ok-put_long.ensures.put refl)
    (root_only (table_view c.in_ok-table.table) c.args.start.now c.in_ok-table.ensures.keys)

pub returns-clause-plain : goal.returns-clause-plain
returns-clause-plain c =
    rw (c.in_ok-put_long-4.ensures.put refl, c.in_ok-put_long-3.ensures.put refl, c.in_ok-put_long-2.ensures.put refl, c.in_ok-put_long.ensures.put refl)
    (root_plain (table_view c.in_ok-table.table) c.args.start.now c.in_ok-table.ensures.plain)
