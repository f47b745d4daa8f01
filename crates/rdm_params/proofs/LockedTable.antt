-- The parameters of the table that a lock can hold.
use Rattle.std.proofs.Common.{refl}
use Rattle.rdm_params.specs.Laws.{LocksKnowTheTable}
use Rattle.rdm_table.specs.Table.Rows.{table}

pub locks_know_the_table : LocksKnowTheTable
unfolding table
locks_know_the_table = refl
