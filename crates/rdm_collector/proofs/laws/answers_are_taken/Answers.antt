use Rattle.rdm_collector.proofs.Hearing.{polls, commands}
use Rattle.rdm_collector.proofs.laws.answers_are_taken.Goals as goal

pub returns-clause-polls : goal.returns-clause-polls
returns-clause-polls c = polls

pub returns-clause-commands : goal.returns-clause-commands
returns-clause-commands c = commands
