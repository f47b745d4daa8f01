use Rattle.std.proofs.Common.{Option, Some, None, Ok, ap, subst}
use Rattle.rdm_messages.specs.Framing.{Message}
use Rattle.rdm_messages.proofs.Beginnings.{unfinished_short}
use Rattle.rdm_interface.specs.Answers.{belongs}
use Rattle.rdm_interface.specs.Exchanges.{IsReadOn}
use Rattle.rdm_interface.proofs.Waits.{read_then}
use Rattle.rdm_interface.proofs.waiting.read_answer.Goals as goal

pub returns-then-saturating_sub-from-clause-room : goal.returns-then-saturating_sub-from-clause-room
returns-then-saturating_sub-from-clause-room g c = unfinished_short c.loop-turn.held c.loop-turn.invariant.searched

pub read_once-requires : goal.read_once-requires
read_once-requires g c = unfinished_short c.loop-turn.held c.loop-turn.invariant.searched

pub returns-clause-room : goal.returns-clause-room
returns-clause-room g c = unfinished_short c.loop-turn.held c.loop-turn.invariant.searched

pub returns-in-Ok-Some-clause-next : goal.returns-in-Ok-Some-clause-next
returns-in-Ok-Some-clause-next g c =
    read_then (belongs c.args.wanted.now) (g.R.Read.remaining c.args.reader.now) (g.R.Read.remaining c.loop-turn.reader) (g.R.Read.remaining c.read_once.new.reader)
    c.args.held.now c.loop-turn.held c.read_once.new.held (Some c.in-Ok-Some.answer) c.loop-turn.invariant.read
    (subst (λ (o : Option Message). IsReadOn (belongs c.args.wanted.now) (g.R.Read.remaining c.loop-turn.reader) (g.R.Read.remaining c.read_once.new.reader) c.loop-turn.held c.read_once.new.held o)
    c.in-Ok-Some.field-0-is c.in-Ok-Some.ensures.next)

pub returns-in-Err-clause-passed : goal.returns-in-Err-clause-passed
returns-in-Err-clause-passed g c =
    read_then (belongs c.args.wanted.now) (g.R.Read.remaining c.args.reader.now) (g.R.Read.remaining c.loop-turn.reader) (g.R.Read.remaining c.read_once.new.reader)
    c.args.held.now c.loop-turn.held c.read_once.new.held None c.loop-turn.invariant.read c.in-Err.ensures.passed

pub loop-turn-preserved : goal.loop-turn-preserved
loop-turn-preserved g c = record {
  searched = c.in-Ok-None.ensures.searched (ap Ok c.in-Ok-None.field-0-is);
  read =
      read_then (belongs c.args.wanted.now) (g.R.Read.remaining c.args.reader.now) (g.R.Read.remaining c.loop-turn.reader) (g.R.Read.remaining c.read_once.new.reader)
      c.args.held.now c.loop-turn.held c.read_once.new.held None c.loop-turn.invariant.read
      (subst (λ (o : Option Message). IsReadOn (belongs c.args.wanted.now) (g.R.Read.remaining c.loop-turn.reader) (g.R.Read.remaining c.read_once.new.reader) c.loop-turn.held c.read_once.new.held o)
      c.in-Ok-None.field-0-is c.in-Ok-None.ensures.next);
}
