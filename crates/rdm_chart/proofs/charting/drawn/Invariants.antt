use Rattle.std.proofs.Common.{◌≡◌, ◌++◌, drop}
use Rattle.rdm_chart.specs.Arrows.{kinds_behind, kinds_said}
use Rattle.rdm_chart.specs.Drawings.{kinds_drawn}
use Rattle.rdm_chart.proofs.charting.drawn.Given as goal

abbrev pub invariant-loop-line : goal.invariant-loop-line
invariant-loop-line l = kinds_drawn l.drawing ++ kinds_behind l.drawing.fault (drop l.line-index l.lines) ≡ kinds_said l.lines
