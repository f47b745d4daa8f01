use Rattle.std.proofs.Common.{◌≡◌, ◌+◌, ◌++◌, take, length}
use Rattle.rdm_fixture.specs.Format.{locks_of}
use Rattle.rdm_fixture.proofs.profile.locks.lock_all.Given as goal

abbrev pub invariant-loop-pid : goal.invariant-loop-pid
invariant-loop-pid l = record {
  locked : l.locks.items ≡ l.fn.locks.items ++ locks_of l.state (take l.pid-index l.pids);
  count : length l.locks.items ≡ length l.fn.locks.items + l.pid-index;
}
