use Rattle.std.proofs.Common.{◌∙◌}
use Rattle.rdm_messages.specs.Framing.{message_in}
use Rattle.rdm_widget.proofs.Turns.{answered_ok, answered_err}
use Rattle.rdm_widget.proofs.answering.answer_one.Goals as goal

pub returns-clause-ok : goal.returns-clause-ok
returns-clause-ok g c =
    answered_ok g.C.Clock.tells g.L.OnLine.hearing c.args.clock.now c.now-now.new.self (message_in c.args.message.now) c.now-now.result c.args.line.now c.answer-packet.new.line
    (g.W.Write.contents c.args.writer.now) (g.W.Write.contents c.write_all.new.writer) c.as_slice.result.now c.write_all.result
    c.now-now.ensures (λ s is. c.as_slice.ensures.value ∙ c.answer-packet.ensures.bytes s is) c.answer-packet.ensures.heard c.write_all.ensures.ok

pub returns-clause-err : goal.returns-clause-err
returns-clause-err g c =
    answered_err g.C.Clock.tells g.L.OnLine.hearing c.args.clock.now c.now-now.new.self (message_in c.args.message.now) c.now-now.result c.args.line.now c.answer-packet.new.line
    (g.W.Write.contents c.args.writer.now) (g.W.Write.contents c.write_all.new.writer) c.as_slice.result.now c.write_all.result
    c.now-now.ensures (λ s is. c.as_slice.ensures.value ∙ c.answer-packet.ensures.bytes s is) c.answer-packet.ensures.heard c.write_all.ensures.front
