use Rattle.std.proofs.Common.{arith}
use Rattle.rdm_device.proofs.BlockSteps.{counted_all}
use Rattle.rdm_device.proofs.device.blocks.slots_used.Goals as goal

pub returns : goal.returns
returns c = counted_all c.args.profile.now c.args.subs.now c.loop-common.total _ c.loop-common.common-index (omega (arith, c.loop-common-test.false)) c.loop-common.invariant.few c.loop-common.invariant.all
