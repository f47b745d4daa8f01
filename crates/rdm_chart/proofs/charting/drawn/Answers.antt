use Rattle.std.proofs.Common.{arith}
use Rattle.rdm_chart.specs.Arrows.{kinds_said}
use Rattle.rdm_chart.specs.Drawings.{kinds_drawn}
use Rattle.rdm_chart.proofs.Tracing.{line_drawn, all_drawn}
use Rattle.rdm_chart.proofs.charting.drawn.Goals as goal

pub loop-line-preserved : goal.loop-line-preserved
loop-line-preserved c =
    line_drawn c.args.lines.now c.loop-line.line-index c.line-item.result _ (kinds_drawn c.loop-line.drawing) (kinds_drawn c.draw.new.self)
    (kinds_said c.args.lines.now) c.loop-line.drawing.fault c.draw.new.self.fault c.loop-line-test.true c.line-item.is c.loop-line.invariant
    c.in_ok-draw.ensures.arrows c.in_ok-draw.ensures.fault

pub returns : goal.returns
returns c =
    all_drawn c.args.lines.now c.loop-line.line-index (kinds_drawn c.loop-line.drawing) (kinds_said c.args.lines.now) c.loop-line.drawing.fault
    (omega (arith, c.loop-line-test.false)) c.loop-line.invariant
