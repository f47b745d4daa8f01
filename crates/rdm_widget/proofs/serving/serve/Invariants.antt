use Rattle.std.proofs.Common.{◌<◌, length}
use Rattle.rdm_widget.proofs.Turns.{SoFar}
use Rattle.rdm_widget.proofs.serving.serve.Given as goal

abbrev pub invariant-loop-turn : goal.invariant-loop-turn
invariant-loop-turn g l = record {
  room : length l.held < 605;
  served : (s : g.L.OnLine.Situation) → g.L.OnLine.hearing.is_in l.fn.line s → SoFar g.C.Clock.tells g.L.OnLine.hearing l.fn.clock l.clock (g.R.Read.remaining l.fn.reader) (g.R.Read.remaining l.reader)
      (g.W.Write.contents l.fn.writer) (g.W.Write.contents l.writer) l.held s l.line;
}
