use Rattle.rdm_params.proofs.Fetches.{get_starts_its_work, set_starts_its_work}
use Rattle.rdm_params.proofs.jobs.laws.started_work_is_its_command.Goals as goal

pub returns-clause-get : goal.returns-clause-get
returns-clause-get c = get_starts_its_work

pub returns-clause-set : goal.returns-clause-set
returns-clause-set c = set_starts_its_work
