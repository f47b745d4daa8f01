use Rattle.rdm_crew.proofs.Drawing.{keeps_arrived, still_within, cut_short}
use Rattle.rdm_crew.proofs.bus.desk.Desk.settle_within.Goals as goal

pub loop-preserved-in-Ok-Arrived : goal.loop-preserved-in-Ok-Arrived
loop-preserved-in-Ok-Arrived g c =
    let kept = keeps_arrived c.args.self.now c.loop.self c.look.new.self c.in-Ok-Arrived.field-0 c.in-Ok-Arrived.field-0-is c.in-Ok-Arrived.ensures.drawn c.loop.invariant.3 c.loop.invariant.4 c.look.ensures.same in
    (tt, tt, kept.0, kept.1, kept.2, still_within c.loop.found_none c.look.new.found_none c.args.empties c.in-Ok-Arrived.field-0 c.in-Ok-Arrived.field-0-is c.in-Ok-Arrived.ensures.counted c.loop.invariant.5)

pub returns-in-Err-clause-settled : goal.returns-in-Err-clause-settled
returns-in-Err-clause-settled g c = cut_short c.args.self.now c.loop.self c.look.new.self c.in-Err.stop c.loop.invariant.3 c.in-Err.ensures.drawn
