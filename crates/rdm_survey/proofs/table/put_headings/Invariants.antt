use Rattle.std.proofs.Common.{◌≡◌, ◌++◌, take}
use Rattle.std.specs.List.{flat_map}
use Rattle.rdm_survey.specs.Columns.{placed}
use Rattle.rdm_survey.proofs.table.put_headings.Given as goal

abbrev pub invariant-loop-column : goal.invariant-loop-column
invariant-loop-column g l =
    l.text.items ≡ l.fn.text.items
    ++ flat_map (λ c. placed (g.C.TableColumn.width_of c) (g.C.TableColumn.heading_of c)) (take l.column-index l.columns)
