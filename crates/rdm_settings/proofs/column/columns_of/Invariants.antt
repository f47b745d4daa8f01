use Rattle.std.proofs.Common.{List, [], ◌++◌, length, map}
use Rattle.rdm_settings.specs.declared.column.Column.{Column}
use Rattle.rdm_settings.specs.Columns.{AreColumns}
use Rattle.rdm_settings.proofs.column.columns_of.Given as goal

abbrev pub invariant-loop-rest : goal.invariant-loop-rest
invariant-loop-rest l =
    (more : List Column) → AreColumns l.columns.items (map (λ name. name.now) l.rest) more → AreColumns [] (map (λ name. name.now) l.names) (l.columns.items ++ more)

abbrev pub decreases-loop-rest : goal.decreases-loop-rest
decreases-loop-rest l = length l.rest
