use Rattle.std.proofs.Common.{◌≡◌, ◌++◌, take}
use Rattle.std.specs.List.{flat_map}
use Rattle.rdm_survey_page.specs.Pages.{row_text}
use Rattle.rdm_survey_page.proofs.table.put_rows.Given as goal

abbrev pub invariant-loop-row : goal.invariant-loop-row
invariant-loop-row l = l.text.items ≡ l.fn.text.items ++ flat_map (row_text l.clashes) (take l.row-index l.rows)
