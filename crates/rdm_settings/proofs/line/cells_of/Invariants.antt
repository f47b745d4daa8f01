use Rattle.std.proofs.Common.{◌≡◌, ◌-◌, ◌++◌, map, drop}
use Rattle.csv.specs.Records.{field_count, fields_of}
use Rattle.rdm_settings.proofs.line.cells_of.Given as goal

abbrev pub invariant-loop-cell : goal.invariant-loop-cell
invariant-loop-cell l = map (λ cell. cell.now) l.cells.items ++ drop l.index (fields_of l.row) ≡ fields_of l.row

abbrev pub decreases-loop-cell : goal.decreases-loop-cell
decreases-loop-cell l = field_count l.row - l.index
