use Rattle.std.proofs.Common.{◌≡◌, ◌++◌, take}
use Rattle.std.specs.List.{flat_map}
use Rattle.rdm_describe.specs.Parts.{if_left_out}
use Rattle.rdm_describe.proofs.fixture_parts.put_left_out.Given as goal

-- those so far
abbrev pub invariant-loop-pid : goal.invariant-loop-pid
invariant-loop-pid l = l.list.items ≡ l.fn.list.items ++ flat_map (if_left_out l.answers) (take l.pid-index l.pids)
