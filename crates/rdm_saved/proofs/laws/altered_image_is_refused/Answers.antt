use Rattle.rdm_saved.proofs.Refusing.{altered_refused}
use Rattle.rdm_saved.proofs.laws.altered_image_is_refused.Goals as goal

pub returns : goal.returns
returns c = altered_refused
