use Rattle.rdm_params.proofs.Ascending.{ascend}
use Rattle.rdm_params.proofs.laws.supported_parameters_ascend.Goals as goal

pub returns : goal.returns
returns c = ascend
