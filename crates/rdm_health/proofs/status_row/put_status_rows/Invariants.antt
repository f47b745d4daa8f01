use Rattle.std.proofs.Common.{◌≡◌, ◌++◌, take}
use Rattle.std.specs.List.{flat_map}
use Rattle.rdm_health.specs.StatusTable.{status_line}
use Rattle.rdm_health.proofs.status_row.put_status_rows.Given as goal

abbrev pub invariant-loop-row : goal.invariant-loop-row
invariant-loop-row l = l.text.items ≡ l.fn.text.items ++ flat_map status_line (take l.row-index l.rows)
