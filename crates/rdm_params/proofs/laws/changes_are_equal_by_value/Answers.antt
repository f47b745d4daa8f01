use Rattle.rdm_params.proofs.PlateEquality.{change_decides}
use Rattle.rdm_params.proofs.laws.changes_are_equal_by_value.Goals as goal

pub returns : goal.returns
returns c = change_decides
