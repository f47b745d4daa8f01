use Rattle.std.proofs.Common.{◌≡◌, ◌≤◌, ◌++◌, not, length, drop}
use Rattle.std.specs.Prelude.{filter}
use Rattle.rdm_table.specs.Table.Rows.{is_left_out}
use Rattle.rdm_table.proofs.table.chosen.staying.Given as goal

abbrev pub invariant-loop-i : goal.invariant-loop-i
invariant-loop-i l = record {
  pids : l.staying.items ++ filter (λ pid. not (is_left_out l.profile pid)) (drop l.i l.pids) ≡ filter (λ pid. not (is_left_out l.profile pid)) l.pids;
  few : length l.staying.items ≤ l.i;
}
