use Rattle.rdm_params.proofs.LockedValues.{locked_values_stay}
use Rattle.rdm_params.proofs.laws.locked_values_stay.Goals as goal

pub returns : goal.returns
returns c = locked_values_stay
