use Rattle.rdm_added.specs.Views.State.{added_entries}
use Rattle.rdm_table.specs.Table.Kinds.{pid_of}
use Rattle.rdm_table.proofs.FactoryRows.{set_back_by_factory}
use Rattle.rdm_table.proofs.table.store.store_added.Goals as goal

pub returns-then-is_factory_defaults-clause-after : goal.returns-then-is_factory_defaults-clause-after
returns-then-is_factory_defaults-clause-after c spot value same kept =
    set_back_by_factory (pid_of c.args.kind) c.is_factory_defaults.result spot value (added_entries c.args.own.now.added.items) (added_entries c.set_added_back.new.own.added.items) c.is_factory_defaults.ensures c.if-is_factory_defaults.true (c.set_added_back.ensures.after spot value same kept)
