use Rattle.rdm_params.proofs.Listed.{listed_exactly}
use Rattle.rdm_params.proofs.laws.supported_parameters_are_exact.Goals as goal

pub returns : goal.returns
returns c = listed_exactly
