use Rattle.std.proofs.Common.{Some}
use Rattle.rdm_interface.specs.Answers.{belongs}
use Rattle.rdm_interface.proofs.Waits.{awaited_then, passed_by, read_none}
use Rattle.rdm_interface.proofs.waiting.await_answer.Goals as goal

pub returns-in-Some-clause-next : goal.returns-in-Some-clause-next
returns-in-Some-clause-next g c =
    read_none (belongs c.args.wanted.now) (g.R.Read.remaining c.args.reader.now) c.args.held.now c.take_answer.new.held (Some c.in-Some.answer) c.in-Some.ensures.next

pub returns-in-None-clause-next : goal.returns-in-None-clause-next
returns-in-None-clause-next g c =
    awaited_then (belongs c.args.wanted.now) (g.R.Read.remaining c.args.reader.now) (g.R.Read.remaining c.read_answer.new.reader)
    c.args.held.now c.take_answer.new.held c.read_answer.new.held c.read_answer.result c.in-None.ensures.next c.read_answer.ensures.next

pub returns-in-None-clause-over : goal.returns-in-None-clause-over
returns-in-None-clause-over g c = λ none. record { start = c.now-start.result; first = c.now-start.new.self; told = c.now-start.ensures; past = c.read_answer.ensures.past none }

pub returns-in-None-clause-passed : goal.returns-in-None-clause-passed
returns-in-None-clause-passed g c =
    passed_by (g.R.Read.remaining c.args.reader.now) (g.R.Read.remaining c.read_answer.new.reader) c.args.held.now c.take_answer.new.held c.read_answer.new.held
    (belongs c.args.wanted.now) c.read_answer.result c.in-None.ensures.next c.read_answer.ensures.passed
