use Rattle.rdm_chart.specs.Drawings.{IsStill}
use Rattle.rdm_chart.proofs.drawing.Drawing.draw_lines.Given as goal

abbrev pub invariant-loop-line : goal.invariant-loop-line
invariant-loop-line l = IsStill l.fn.self l.self
