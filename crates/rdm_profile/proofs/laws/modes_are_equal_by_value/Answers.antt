use Rattle.rdm_profile.proofs.Equality.{mode_decides}
use Rattle.rdm_profile.proofs.laws.modes_are_equal_by_value.Goals as goal

pub returns : goal.returns
returns c = mode_decides c.personalities_are_equal_by_value.ensures c.slots_are_equal_by_value.ensures
