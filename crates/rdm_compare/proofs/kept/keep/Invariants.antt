use Rattle.std.proofs.Common.{◌≡◌, take}
use Rattle.rdm_compare.specs.Keeping.{kept_rows}
use Rattle.rdm_compare.proofs.kept.keep.Given as goal

abbrev pub invariant-loop-row : goal.invariant-loop-row
invariant-loop-row l = l.list.items ≡ kept_rows (take l.row-index l.rows)
