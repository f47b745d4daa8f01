use Rattle.std.proofs.Common.{length, drop, ◌-◌, ◌≤◌}
use Rattle.rdm_messages.specs.Serving.{AreDone, AllWritten}
use Rattle.rdm_widget.proofs.answering.answer_all.Given as goal

abbrev pub invariant-loop-done : goal.invariant-loop-done
invariant-loop-done g l = record {
  within : l.done ≤ length l.bytes;
  answered : (s : g.L.OnLine.Situation) → g.L.OnLine.hearing.is_in l.fn.line s → AreDone g.C.Clock.tells g.L.OnLine.hearing l.fn.clock l.clock l.bytes (drop l.done l.bytes) s l.line
      (AllWritten g.L.OnLine.hearing (g.W.Write.contents l.fn.writer) (g.W.Write.contents l.writer));
}

abbrev pub decreases-loop-done : goal.decreases-loop-done
decreases-loop-done g l = length l.bytes - l.done
