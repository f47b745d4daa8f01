use Rattle.std.proofs.Common.{◌≡◌, ◌++◌, take}
use Rattle.std.specs.List.{flat_map}
use Rattle.rdm_describe.specs.Notes.{if_kept}
use Rattle.rdm_describe.proofs.notes.put_kept.Given as goal

-- those so far
abbrev pub invariant-loop-pid : goal.invariant-loop-pid
invariant-loop-pid l = l.list.items ≡ l.fn.list.items ++ flat_map (if_kept l.answers) (take l.pid-index l.pids)
