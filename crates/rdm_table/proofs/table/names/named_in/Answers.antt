use Rattle.std.proofs.Common.{Some, None}
use Rattle.rdm_table.proofs.RowNames.{named_found}
use Rattle.rdm_table.proofs.table.names.named_in.Goals as goal

pub returns-in-Some : goal.returns-in-Some
returns-in-Some c = named_found c.args.rows.now c.args.name.now (Some c.in-Some.row.now) c.in-Some.ensures

pub returns-in-None : goal.returns-in-None
returns-in-None c = named_found c.args.rows.now c.args.name.now None c.in-None.ensures
