use Rattle.rdm_profile.proofs.ValueEquality.{value_decides}
use Rattle.rdm_profile.proofs.laws.values_are_equal_by_value.Goals as goal

pub returns : goal.returns
returns c = value_decides c.sensor_defs_are_equal_by_value.ensures
