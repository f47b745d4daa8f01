use Rattle.rdm_bench.proofs.Frames.{one_more_found, all_found}
use Rattle.rdm_bench.proofs.packed.unpack.Goals as goal

pub loop-frame-preserved : goal.loop-frame-preserved
loop-frame-preserved c frames packable is =
    one_more_found frames c.loop-frame.frames.items c.push.new.self.items c.in-Some.frame c.loop-frame.rest.now c.in-Some.behind.now c.in_ok-push.ensures.items c.in-Some.ensures.end c.in-Some.ensures.found (c.loop-frame.invariant frames packable is)

pub returns : goal.returns
returns c frames packable is =
    all_found frames c.loop-frame.frames.items c.loop-frame.rest.now c.in_default.ensures.found (c.loop-frame.invariant frames packable is)
