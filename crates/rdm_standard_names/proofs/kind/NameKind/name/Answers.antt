use Rattle.rdm_standard_names.proofs.ReadBack.{carried}
use Rattle.rdm_standard_names.proofs.Rows.{named_row}
use Rattle.rdm_standard_names.proofs.kind.NameKind.name.Goals as goal

pub returns-clause-value : goal.returns-clause-value
returns-clause-value c = named_row c.table.result c.args.self c.args.number _ c.table.ensures c.name.ensures

pub returns-clause-read_back : goal.returns-clause-read_back
returns-clause-read_back c =
    carried c.args.self c.args.number c.name.result (named_row c.table.result c.args.self c.args.number _ c.table.ensures c.name.ensures)
