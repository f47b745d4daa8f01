use Rattle.rdm_profile.proofs.Equality.{parameter_decides}
use Rattle.rdm_profile.proofs.laws.parameter_defs_are_equal_by_value.Goals as goal

pub returns : goal.returns
returns c = parameter_decides c.rights_are_equal_by_value.ensures c.shapes_are_equal_by_value.ensures c.fields_are_equal_by_value.ensures
