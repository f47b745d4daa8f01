use Rattle.std.proofs.Common.{◌≡◌, ◌++◌, length, map}
use Rattle.rdm_settings.specs.Sheets.{cells_say}
use Rattle.rdm_settings.proofs.findings.put_cells.Given as goal

abbrev pub invariant-loop-rest : goal.invariant-loop-rest
invariant-loop-rest l =
    l.list.items ++ cells_say l.line l.place l.rest (map (λ cell. cell.now) l.left)
    ≡ l.fn.list.items ++ cells_say l.line l.place l.columns (map (λ cell. cell.now) l.cells)

abbrev pub decreases-loop-rest : goal.decreases-loop-rest
decreases-loop-rest l = length l.rest
