use Rattle.std.proofs.Common.{refl}
use Rattle.toml.specs.View.{table_view}
use Rattle.toml.proofs.Views.{view-Table}
use Rattle.rdm_fixture.proofs.WrittenUnits.{sub_says, sub_plain}
use Rattle.rdm_fixture.proofs.writing.tables.sub_devices_of.Goals as goal

pub returns-clause-says : goal.returns-clause-says
returns-clause-says c = λ made texts slots t root.
    rw (view-Table c.put_word.new.table, c.in_ok-put_word.ensures.put refl)
    (sub_says (table_view c.in_ok-table.table) c.args.profile.now.subs c.args.profile.now.sub made.0 c.in_ok-table.ensures.keys
    (c.in_ok-table.ensures.says 512 made.1.sub texts))

pub returns-clause-plain : goal.returns-clause-plain
returns-clause-plain c =
    rw (view-Table c.put_word.new.table, c.in_ok-put_word.ensures.put refl)
    (sub_plain (table_view c.in_ok-table.table) c.args.profile.now.subs c.in_ok-table.ensures.plain)
