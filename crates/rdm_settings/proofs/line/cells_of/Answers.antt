use Rattle.csv.specs.Records.{fields_of}
use Rattle.rdm_settings.proofs.Fields.{fields_go_on, fields_end}
use Rattle.rdm_settings.proofs.line.cells_of.Goals as goal

pub loop-cell-preserved : goal.loop-cell-preserved
loop-cell-preserved c = fields_go_on _ _ (fields_of c.args.row.now) c.loop-cell.index c.in-Some.cell.now c.in-Some.ensures.value c.in_ok-put_cell.ensures c.loop-cell.invariant

pub returns : goal.returns
returns c = fields_end _ (fields_of c.args.row.now) c.loop-cell.index c.in_default.ensures.value c.loop-cell.invariant
