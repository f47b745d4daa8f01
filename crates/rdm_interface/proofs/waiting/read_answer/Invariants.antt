use Rattle.std.proofs.Common.{None}
use Rattle.rdm_messages.specs.Framing.{IsUnfinished}
use Rattle.rdm_interface.specs.Answers.{belongs}
use Rattle.rdm_interface.specs.Exchanges.{IsReadOn}
use Rattle.rdm_interface.proofs.waiting.read_answer.Given as goal

abbrev pub invariant-loop-turn : goal.invariant-loop-turn
invariant-loop-turn g l = record {
  searched : IsUnfinished l.held;
  read : IsReadOn (belongs l.wanted) (g.R.Read.remaining l.fn.reader) (g.R.Read.remaining l.reader) l.fn.held l.held None;
}
