use Rattle.std.proofs.Common.{◌≡◌, ◌++◌, take, drop}
use Rattle.rdm_table.specs.Table.Rows.{with_pid}
use Rattle.rdm_table.proofs.table.chosen.place_of.Given as goal

-- the PIDs before this place are below the one that is put among them
abbrev pub invariant-loop-i : goal.invariant-loop-i
invariant-loop-i l = with_pid l.pid l.pids ≡ take l.i l.pids ++ with_pid l.pid (drop l.i l.pids)
