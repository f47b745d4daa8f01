use Rattle.std.proofs.Common.{Some, None}
use Rattle.rdm_table.proofs.RowNames.{name_found}
use Rattle.rdm_table.proofs.table.names.name_in.Goals as goal

pub returns-in-Some : goal.returns-in-Some
returns-in-Some c = name_found c.args.rows.now c.args.pid (Some c.in-Some.row.now) c.in-Some.ensures

pub returns-in-None : goal.returns-in-None
returns-in-None c = name_found c.args.rows.now c.args.pid None c.in-None.ensures
