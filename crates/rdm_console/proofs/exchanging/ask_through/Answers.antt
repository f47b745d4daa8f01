use Rattle.std.proofs.Common.{sym, ◌∙◌, arith}
use Rattle.rdm_console.specs.Exchanges.{turn}
use Rattle.rdm_console.proofs.Exchanges.{answered, asked_next, last_answer, last_fault}
use Rattle.rdm_console.proofs.exchanging.ask_through.Goals as goal

pub returns-then-is_some-clause-sent : goal.returns-then-is_some-clause-sent
returns-then-is_some-clause-sent g c =
    answered g.P.Port.hears c.args.command.now c.loop-turn._turn (turn c.args.mailbox.now c.args.port.now)
    (turn c.loop-turn.mailbox c.loop-turn.port) (turn c.reply_once.new.mailbox c.reply_once.new.port) c.in-Ok.reply
    c.loop-turn.invariant c.in-Ok.ensures.sent (sym c.is_some.ensures ∙ c.if-is_some.true) (omega (arith, c.loop-turn-test.true))

pub loop-turn-preserved : goal.loop-turn-preserved
loop-turn-preserved g c =
    asked_next g.P.Port.hears c.args.command.now c.loop-turn._turn (turn c.args.mailbox.now c.args.port.now)
    (turn c.loop-turn.mailbox c.loop-turn.port) (turn c.reply_once.new.mailbox c.reply_once.new.port) c.in-Ok.reply
    c.loop-turn.invariant c.in-Ok.ensures.sent (sym c.is_some.ensures ∙ c.if-is_some.false)

pub returns-clause-sent : goal.returns-clause-sent
returns-clause-sent g c =
    last_answer g.P.Port.hears c.args.command.now c.loop-turn._turn (turn c.args.mailbox.now c.args.port.now)
    (turn c.loop-turn.mailbox c.loop-turn.port) (turn c.reply_once-2.new.mailbox c.reply_once-2.new.port) c.reply_once-2.result
    c.loop-turn.invariant (omega (arith, c.loop-turn-test.false, c.loop-turn.auto._turn-end)) c.reply_once-2.ensures.sent

pub returns-clause-failed : goal.returns-clause-failed
returns-clause-failed g c =
    last_fault g.P.Port.hears g.P.Port.fails c.args.command.now c.loop-turn._turn (turn c.args.mailbox.now c.args.port.now)
    (turn c.loop-turn.mailbox c.loop-turn.port) (turn c.reply_once-2.new.mailbox c.reply_once-2.new.port) c.reply_once-2.result
    c.loop-turn.invariant (omega (arith, c.loop-turn-test.false, c.loop-turn.auto._turn-end)) c.reply_once-2.ensures.failed
