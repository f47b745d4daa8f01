use Rattle.rdm_profile.proofs.Equality.{sensor_decides}
use Rattle.rdm_profile.proofs.laws.sensor_defs_are_equal_by_value.Goals as goal

pub returns : goal.returns
returns c = sensor_decides
