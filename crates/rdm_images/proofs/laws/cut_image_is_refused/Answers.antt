use Rattle.rdm_images.proofs.Altering.{cut_is_refused}
use Rattle.rdm_images.proofs.laws.cut_image_is_refused.Goals as goal

pub returns : goal.returns
returns c = cut_is_refused
