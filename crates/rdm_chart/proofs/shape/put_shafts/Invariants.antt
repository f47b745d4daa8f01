use Rattle.std.proofs.Common.{take, string_bytes}
use Rattle.rdm_chart.specs.Drawings.{kinds_of_shafts}
use Rattle.rdm_chart.specs.Pictures.{AreDrawn}
use Rattle.rdm_chart.proofs.shape.put_shafts.Given as goal

abbrev pub invariant-loop-shaft : goal.invariant-loop-shaft
invariant-loop-shaft l = AreDrawn (kinds_of_shafts (take l.shaft-index l.shafts)) (string_bytes l.fn.markup) (string_bytes l.markup)
