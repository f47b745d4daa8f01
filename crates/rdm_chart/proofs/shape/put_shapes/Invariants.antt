use Rattle.std.proofs.Common.{[], string_bytes}
use Rattle.rdm_chart.specs.Pictures.{AreDrawn}
use Rattle.rdm_chart.proofs.shape.put_shapes.Given as goal

abbrev pub invariant-loop-shape : goal.invariant-loop-shape
invariant-loop-shape l = AreDrawn [] (string_bytes l.fn.markup) (string_bytes l.markup)
