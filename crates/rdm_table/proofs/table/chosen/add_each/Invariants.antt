use Rattle.std.proofs.Common.{◌≡◌, ◌≤◌, ◌+◌, length, map, drop}
use Rattle.rdm_table.specs.Table.Rows.{with_pids}
use Rattle.rdm_table.proofs.table.chosen.add_each.Given as goal

abbrev pub invariant-loop-i : goal.invariant-loop-i
invariant-loop-i l = record {
  pids : with_pids (map (λ d. d.pid) (drop l.i l.defs)) l.pids.items ≡ with_pids (map (λ d. d.pid) l.defs) l.initial.pids.items;
  few : length l.pids.items ≤ 36 + l.i;
}
