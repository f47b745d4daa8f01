use Rattle.std.proofs.Common.{◌≡◌, ◌++◌, take}
use Rattle.std.specs.List.{flat_map}
use Rattle.rdm_describe.specs.Added.{added_at}
use Rattle.rdm_describe.proofs.added.put_added.Given as goal

-- those so far
abbrev pub invariant-loop-pid : goal.invariant-loop-pid
invariant-loop-pid l = l.list.items ≡ l.fn.list.items ++ flat_map (added_at l.answers) (take l.pid-index l.pids)
