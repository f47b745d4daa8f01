use Rattle.rdm_updates.proofs.Updating.{updated_is}
use Rattle.rdm_updates.proofs.laws.update_keeps_values.Goals as goal

pub returns : goal.returns
returns c = updated_is
