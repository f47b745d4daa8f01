use Rattle.rdm_params.proofs.PlacesAsSet.{places_as_set}
use Rattle.rdm_params.proofs.laws.placing_is_setting.Goals as goal

pub returns : goal.returns
returns c = places_as_set
