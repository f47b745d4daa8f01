use Rattle.rdm_interface.specs.Lines.{IsUnanswered}
use Rattle.rdm_interface.proofs.searching.heard_of.Given as goal

abbrev pub invariant-loop-turn : goal.invariant-loop-turn
invariant-loop-turn g l = IsUnanswered g.P.Port.hears l.frame l._turn l.fn.port l.port
