use Rattle.rdm_table.specs.Table.Rows.{row_of}
use Rattle.rdm_table.proofs.table.store.store_common.Goals as goal

pub returns-in-FactoryDefaults-clause-after : goal.returns-in-FactoryDefaults-clause-after
unfolding row_of
returns-in-FactoryDefaults-clause-after c = rw c.in-FactoryDefaults.is (λ spot e f. c.common_set_back.ensures.after c.args.value.now spot e f)
