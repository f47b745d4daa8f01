use Rattle.std.proofs.Common.{◌≡◌, ◌++◌, take}
use Rattle.std.specs.List.{flat_map}
use Rattle.rdm_settings.specs.Sheets.{column_says}
use Rattle.rdm_settings.proofs.findings.put_columns.Given as goal

abbrev pub invariant-loop-column : goal.invariant-loop-column
invariant-loop-column l = l.list.items ≡ l.fn.list.items ++ flat_map column_says (take l.column-index l.columns)
