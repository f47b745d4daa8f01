use Rattle.rdm_profile.proofs.Equality.{unit_decides}
use Rattle.rdm_profile.proofs.laws.units_are_equal_by_value.Goals as goal

pub returns : goal.returns
returns c = unit_decides c.personalities_are_equal_by_value.ensures
