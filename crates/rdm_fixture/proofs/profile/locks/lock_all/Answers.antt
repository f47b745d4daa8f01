use Rattle.std.proofs.Common.{◌∙◌, refl, arith}
use Rattle.rdm_fixture.proofs.Locks.{lock_more}
use Rattle.rdm_fixture.proofs.profile.locks.lock_all.Goals as goal

pub loop-pid-preserved : goal.loop-pid-preserved
loop-pid-preserved c = record {
  locked = c.push.ensures.items
      ∙ lock_more c.args.locks.now.items c.args.state c.args.pids.now c.loop-pid.pid-index _ c.loop-pid.locks.items c.loop-pid-test.true c.loop-pid.invariant.locked refl;
  count = omega (arith, c.push.ensures.len, c.loop-pid.invariant.count);
}
