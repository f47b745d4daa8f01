use Rattle.std.proofs.Common.{arith}
use Rattle.rdm_responder.proofs.Runs.{completes_first, completes_next, completes_all}
use Rattle.rdm_responder.proofs.responder.Responder.step_all.Goals as goal

pub loop-input-init : goal.loop-input-init
loop-input-init c = record {
  run = completes_first c.args.self.now c.in_ok-outputs.outputs.items c.args.inputs.now c.in_ok-outputs.ensures.items;
  count = c.in_ok-outputs.ensures.len;
  room = c.in_ok-outputs.ensures.capacity;
}

pub loop-input-preserved : goal.loop-input-preserved
loop-input-preserved c = record {
  run = completes_next c.args.self.now c.loop-input.self c.take.new.self c.loop-input.outputs.items c.args.inputs.now c.loop-input.input-index _ c.input-item.result c.take.result c.push_reserved.new.self.items c.push_reserved.ensures.items c.input-item.is c.loop-input-test.true c.loop-input.invariant.run c.take.ensures;
  count = omega (arith, c.push_reserved.ensures.len, c.loop-input.invariant.count);
  room = omega (arith, c.push_reserved.ensures.capacity, c.loop-input.invariant.room);
}

pub returns-clause-ok : goal.returns-clause-ok
returns-clause-ok c h from =
    completes_all _ _ _ c.args.inputs.now c.loop-input.input-index (omega arith) c.loop-input.invariant.run h from
