use Rattle.rdm_profile.proofs.Equality.{field_decides}
use Rattle.rdm_profile.proofs.laws.fields_are_equal_by_value.Goals as goal

pub returns : goal.returns
returns c = field_decides c.widths_are_equal_by_value.ensures
