use Rattle.rdm_updates.proofs.Starting.{counted}
use Rattle.rdm_updates.proofs.laws.start_is_counted.Goals as goal

pub returns : goal.returns
returns c = counted
