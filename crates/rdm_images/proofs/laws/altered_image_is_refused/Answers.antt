use Rattle.rdm_images.proofs.Altering.{altered_is_refused}
use Rattle.rdm_images.proofs.laws.altered_image_is_refused.Goals as goal

pub returns : goal.returns
returns c = altered_is_refused
