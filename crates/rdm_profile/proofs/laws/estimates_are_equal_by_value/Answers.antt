use Rattle.rdm_profile.proofs.Equality.{estimates_decide}
use Rattle.rdm_profile.proofs.laws.estimates_are_equal_by_value.Goals as goal

pub returns : goal.returns
returns c = estimates_decide
