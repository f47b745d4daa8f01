use Rattle.std.proofs.Common.{◌≡◌, ◌++◌, take}
use Rattle.std.specs.List.{flat_map}
use Rattle.rdm_describe.specs.Plan.{if_listed}
use Rattle.rdm_describe.proofs.plan.put_listed.Given as goal

-- those so far
abbrev pub invariant-loop-pid : goal.invariant-loop-pid
invariant-loop-pid l = l.list.items ≡ l.fn.list.items ++ flat_map (if_listed l.answers l.sub) (take l.pid-index l.pids)
