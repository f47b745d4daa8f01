use Rattle.std.proofs.Common.{◌≡◌, ◌≤◌, take, length}
use Rattle.rdm_fixture.specs.Format.{all_locks}
use Rattle.rdm_fixture.proofs.profile.locks.all_locks.Given as goal

abbrev pub invariant-loop-locking : goal.invariant-loop-locking
invariant-loop-locking l = record {
  locked : l.locks.items ≡ all_locks (take l.locking-index l.states);
  few : length l.locks.items ≤ 64;
}
