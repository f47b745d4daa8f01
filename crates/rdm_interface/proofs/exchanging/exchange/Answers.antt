use Rattle.std.proofs.Common.{Option, subst}
use Rattle.rdm_messages.specs.Ends.{end_at}
use Rattle.rdm_messages.specs.Framing.{Message}
use Rattle.rdm_interface.specs.Answers.{belongs}
use Rattle.rdm_interface.specs.Exchanges.{IsAsked}
use Rattle.rdm_interface.proofs.Waits.{exchanged_none, exchanged_some}
use Rattle.rdm_interface.proofs.exchanging.exchange.Goals as goal

pub returns-in-Ok-clause-exchanged : goal.returns-in-Ok-clause-exchanged
returns-in-Ok-clause-exchanged g c =
    let before = end_at c.args.clock.now (g.R.Read.remaining c.args.reader.now) (g.W.Write.contents c.args.writer.now) c.args.held.now in
    let between = end_at c.ask.new.clock (g.R.Read.remaining c.ask.new.reader) (g.W.Write.contents c.ask.new.writer) c.ask.new.held in
    let after = end_at c.await_end.new.clock (g.R.Read.remaining c.await_end.new.reader) (g.W.Write.contents c.ask.new.writer) c.await_end.new.held in
    let ended = c.in-Ok.ensures.ended in
    exchanged_some g.C.Clock.tells c.args.span before between after c.args.request.now c.wanted_by-wanted.result c.label.result c.in-Ok-Some.answer ended.0 c.heard.result
    c.wanted_by-wanted.ensures c.label.ensures c.heard.ensures
    (subst (λ (o : Option Message). IsAsked g.C.Clock.tells c.args.span before between (record { label = c.label.result; body = c.args.request.now }) (belongs c.wanted_by-wanted.result) o) c.in-Ok-Some.field-0-is c.in-Ok-Some.ensures.asked)
    (ended.1 (g.W.Write.contents c.ask.new.writer))

pub returns-in-Ok-None-clause-exchanged : goal.returns-in-Ok-None-clause-exchanged
returns-in-Ok-None-clause-exchanged g c =
    let before = end_at c.args.clock.now (g.R.Read.remaining c.args.reader.now) (g.W.Write.contents c.args.writer.now) c.args.held.now in
    let after = end_at c.ask.new.clock (g.R.Read.remaining c.ask.new.reader) (g.W.Write.contents c.ask.new.writer) c.ask.new.held in
    exchanged_none g.C.Clock.tells c.args.span before after c.args.request.now c.wanted_by-wanted.result c.label.result
    c.wanted_by-wanted.ensures c.label.ensures
    (subst (λ (o : Option Message). IsAsked g.C.Clock.tells c.args.span before after (record { label = c.label.result; body = c.args.request.now }) (belongs c.wanted_by-wanted.result) o) c.in-Ok-None.field-0-is c.in-Ok-None.ensures.asked)
