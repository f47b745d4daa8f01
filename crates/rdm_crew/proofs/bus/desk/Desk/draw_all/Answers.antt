use Rattle.rdm_crew.proofs.Drawing.{keeps_arrived, cut_short}
use Rattle.rdm_crew.proofs.bus.desk.Desk.draw_all.Goals as goal

pub loop-preserved-in-Ok-Arrived : goal.loop-preserved-in-Ok-Arrived
loop-preserved-in-Ok-Arrived g c =
    let kept = keeps_arrived c.args.self.now c.loop.self c.draw.new.self c.in-Ok-Arrived.field-0 c.in-Ok-Arrived.field-0-is c.in-Ok-Arrived.ensures.drawn c.loop.invariant.3 c.loop.invariant.4 c.draw.ensures.same in
    (tt, tt, kept.0, kept.1, kept.2)

pub returns-in-Err-clause-drawn : goal.returns-in-Err-clause-drawn
returns-in-Err-clause-drawn g c = cut_short c.args.self.now c.loop.self c.draw.new.self c.in-Err.stop c.loop.invariant.3 c.in-Err.ensures.drawn
