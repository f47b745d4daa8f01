use Rattle.std.proofs.Common.{arith}
use Rattle.rdm_messages.specs.Serving.{AllWritten, LastCutShort}
use Rattle.rdm_messages.proofs.Beginnings.{none_left}
use Rattle.rdm_widget.proofs.Turns.{none_done, next_done, next_fails, all_then, short_then, rest_within, rest_unfinished}
use Rattle.rdm_widget.proofs.answering.answer_all.Goals as goal

pub loop-done-init : goal.loop-done-init
loop-done-init g c = record {
  within = omega arith;
  answered = λ s is. none_done g.C.Clock.tells g.L.OnLine.hearing c.args.clock.now c.args.bytes.now s c.args.line.now (g.W.Write.contents c.args.writer.now) is;
}

pub loop-done-preserved : goal.loop-done-preserved
loop-done-preserved g c = record {
  within = rest_within c.args.bytes.now c.loop-done.done c.in-Ok.count c.loop-done.invariant.within c.in-Ok.ensures.within;
  answered = λ s is.
      next_done g.C.Clock.tells g.L.OnLine.hearing c.args.clock.now c.loop-done.clock c.answer_front.new.clock c.args.bytes.now c.loop-done.done c.in-Ok.count s c.loop-done.line c.answer_front.new.line
      (AllWritten g.L.OnLine.hearing (g.W.Write.contents c.args.writer.now) (g.W.Write.contents c.loop-done.writer))
      (AllWritten g.L.OnLine.hearing (g.W.Write.contents c.loop-done.writer) (g.W.Write.contents c.answer_front.new.writer))
      (AllWritten g.L.OnLine.hearing (g.W.Write.contents c.args.writer.now) (g.W.Write.contents c.answer_front.new.writer))
      (c.loop-done.invariant.answered s is) c.in-Ok.ensures.ok
      (all_then g.L.OnLine.hearing (g.W.Write.contents c.args.writer.now) (g.W.Write.contents c.loop-done.writer) (g.W.Write.contents c.answer_front.new.writer) s);
}

pub returns-then-count-eq0-clause-ok : goal.returns-then-count-eq0-clause-ok
returns-then-count-eq0-clause-ok g c = λ s is.
    next_done g.C.Clock.tells g.L.OnLine.hearing c.args.clock.now c.loop-done.clock c.answer_front.new.clock c.args.bytes.now c.loop-done.done c.in-Ok.count s c.loop-done.line c.answer_front.new.line
    (AllWritten g.L.OnLine.hearing (g.W.Write.contents c.args.writer.now) (g.W.Write.contents c.loop-done.writer))
    (AllWritten g.L.OnLine.hearing (g.W.Write.contents c.loop-done.writer) (g.W.Write.contents c.answer_front.new.writer))
    (AllWritten g.L.OnLine.hearing (g.W.Write.contents c.args.writer.now) (g.W.Write.contents c.answer_front.new.writer))
    (c.loop-done.invariant.answered s is) c.in-Ok.ensures.ok
    (all_then g.L.OnLine.hearing (g.W.Write.contents c.args.writer.now) (g.W.Write.contents c.loop-done.writer) (g.W.Write.contents c.answer_front.new.writer) s)

pub returns-then-count-eq0-clause-rest : goal.returns-then-count-eq0-clause-rest
returns-then-count-eq0-clause-rest g c = (
  rest_within c.args.bytes.now c.loop-done.done c.in-Ok.count c.loop-done.invariant.within c.in-Ok.ensures.within,
  rest_unfinished c.args.bytes.now c.loop-done.done c.in-Ok.count c.if-count-eq0.true (c.in-Ok.ensures.unfinished c.if-count-eq0.true),
)

pub returns-in-Err-clause-err : goal.returns-in-Err-clause-err
returns-in-Err-clause-err g c = λ s is.
    next_fails g.C.Clock.tells g.L.OnLine.hearing c.args.clock.now c.loop-done.clock c.answer_front.new.clock c.args.bytes.now c.loop-done.done s c.loop-done.line c.answer_front.new.line
    (AllWritten g.L.OnLine.hearing (g.W.Write.contents c.args.writer.now) (g.W.Write.contents c.loop-done.writer))
    (LastCutShort g.L.OnLine.hearing (g.W.Write.contents c.loop-done.writer) (g.W.Write.contents c.answer_front.new.writer))
    (LastCutShort g.L.OnLine.hearing (g.W.Write.contents c.args.writer.now) (g.W.Write.contents c.answer_front.new.writer))
    (c.loop-done.invariant.answered s is) c.in-Err.ensures.err
    (short_then g.L.OnLine.hearing (g.W.Write.contents c.args.writer.now) (g.W.Write.contents c.loop-done.writer) (g.W.Write.contents c.answer_front.new.writer) s)

pub returns-clause-rest : goal.returns-clause-rest
returns-clause-rest g c = (c.loop-done.invariant.within, none_left c.args.bytes.now c.loop-done.done (omega arith))
