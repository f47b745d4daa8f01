use Rattle.rdm_params.proofs.LockedTable.{locks_know_the_table}
use Rattle.rdm_params.proofs.laws.locks_know_the_table.Goals as goal

pub returns : goal.returns
returns c = locks_know_the_table
