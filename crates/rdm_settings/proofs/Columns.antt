-- The columns, one after the other.
use Rattle.std.proofs.Common.{ℕ, ◌<◌, List, [], ◌∷◌, ◌++◌, length, refl, arith}
use Rattle.std.proofs.lemmas.List.{append-nil}
use Rattle.rdm_settings.specs.declared.column.Column.{Column}
use Rattle.rdm_settings.specs.Columns.{AreColumns}

-- where no name is left, the columns so far are all
pub columns_end : (columns : List Column) (rest every : List (List ℕ)) → length rest < 1
    → ((more : List Column) → AreColumns columns rest more → AreColumns [] every (columns ++ more)) → AreColumns [] every columns
columns_end columns [] every none so_far = rw (append-nil columns) at (so_far [] refl)
columns_end columns (name ∷ names) every none so_far = absurd (omega arith)
