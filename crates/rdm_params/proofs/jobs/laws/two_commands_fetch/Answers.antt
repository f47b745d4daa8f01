use Rattle.rdm_params.proofs.Fetches.{get_queues, get_statuses, set_fetches_nothing}
use Rattle.rdm_params.proofs.jobs.laws.two_commands_fetch.Goals as goal

pub returns-clause-queue : goal.returns-clause-queue
returns-clause-queue c = get_queues

pub returns-clause-status : goal.returns-clause-status
returns-clause-status c = get_statuses

pub returns-clause-set : goal.returns-clause-set
returns-clause-set c = set_fetches_nothing
