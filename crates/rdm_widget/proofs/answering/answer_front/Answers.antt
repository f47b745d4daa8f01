use Rattle.std.proofs.Common.{List, ℕ, subst}
use Rattle.rdm_messages.specs.Framing.{message_in}
use Rattle.rdm_messages.specs.Serving.{AreDone, AllWritten}
use Rattle.rdm_messages.proofs.Beginnings.{rest_is}
use Rattle.rdm_widget.proofs.Turns.{none_done, stray_done}
use Rattle.rdm_widget.proofs.answering.answer_front.Goals as goal

pub returns-in-Unfinished-clause-ok : goal.returns-in-Unfinished-clause-ok
returns-in-Unfinished-clause-ok g c = λ s is.
    none_done g.C.Clock.tells g.L.OnLine.hearing c.args.clock.now c.args.bytes.now s c.args.line.now (g.W.Write.contents c.args.writer.now) is

pub returns-in-Stray-clause-ok : goal.returns-in-Stray-clause-ok
returns-in-Stray-clause-ok g c = λ s is.
    stray_done g.C.Clock.tells g.L.OnLine.hearing c.args.clock.now c.args.bytes.now s c.args.line.now (g.W.Write.contents c.args.writer.now) is c.in-Stray.ensures.0 c.in-Stray.ensures.1

pub returns-in-Ok-clause-ok : goal.returns-in-Ok-clause-ok
returns-in-Ok-clause-ok g c = λ s is.
    subst
    (λ (l : List ℕ). AreDone g.C.Clock.tells g.L.OnLine.hearing c.args.clock.now c.answer_one.new.clock c.args.bytes.now l s c.answer_one.new.line
    (AllWritten g.L.OnLine.hearing (g.W.Write.contents c.args.writer.now) (g.W.Write.contents c.answer_one.new.writer)))
    (rest_is c.args.bytes.now c.in-Whole.ensures.rest (message_in c.in-Whole.message) c.in-Whole.ensures.whole)
    (c.in-Ok.ensures.ok s c.args.bytes.now c.in-Whole.ensures.rest is c.in-Whole.ensures.is_message c.in-Whole.ensures.whole)
