use Rattle.rdm_updates.proofs.ReadBack.{saved_is_read}
use Rattle.rdm_updates.proofs.laws.saved_values_are_read.Goals as goal

pub returns : goal.returns
returns c = saved_is_read
