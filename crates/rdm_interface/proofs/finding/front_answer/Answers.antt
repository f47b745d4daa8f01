use Rattle.rdm_messages.specs.Framing.{message_in}
use Rattle.rdm_interface.specs.Answers.{belongs}
use Rattle.rdm_interface.proofs.Nexts.{next_stray, next_front}
use Rattle.rdm_interface.proofs.finding.front_answer.Goals as goal

pub returns-in-Stray-clause-next : goal.returns-in-Stray-clause-next
returns-in-Stray-clause-next c = next_stray (belongs c.args.wanted.now) c.args.bytes.now c.in-Stray.ensures.0 c.in-Stray.ensures.1

pub returns-in-Whole-clause-next : goal.returns-in-Whole-clause-next
returns-in-Whole-clause-next c =
    next_front (belongs c.args.wanted.now) c.args.bytes.now (message_in c.in-Whole.message) c.claimed.result c.in-Whole.ensures c.claimed.ensures
