use Rattle.rdm_console.specs.Exchanges.{IsUnanswered, turn}
use Rattle.rdm_console.proofs.exchanging.ask_through.Given as goal

abbrev pub invariant-loop-turn : goal.invariant-loop-turn
invariant-loop-turn g l = IsUnanswered g.P.Port.hears l.command l._turn (turn l.fn.mailbox l.fn.port) (turn l.mailbox l.port)
