use Rattle.rdm_params.proofs.Fetches.{set_clears, get_clears_nothing}
use Rattle.rdm_params.proofs.jobs.laws.one_command_clears.Goals as goal

pub returns-clause-set : goal.returns-clause-set
returns-clause-set c = set_clears

pub returns-clause-get : goal.returns-clause-get
returns-clause-get c = get_clears_nothing
