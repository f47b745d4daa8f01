use Rattle.rdm_params.proofs.ReadBack.{reads_back}
use Rattle.rdm_params.proofs.laws.written_value_is_read_back.Goals as goal

pub returns : goal.returns
returns c = reads_back
