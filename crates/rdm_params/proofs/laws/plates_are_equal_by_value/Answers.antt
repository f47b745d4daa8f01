use Rattle.rdm_params.proofs.PlateEquality.{text_decides}
use Rattle.rdm_params.proofs.laws.plates_are_equal_by_value.Goals as goal

pub returns : goal.returns
returns c = text_decides
