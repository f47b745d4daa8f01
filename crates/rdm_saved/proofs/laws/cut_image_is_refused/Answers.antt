use Rattle.rdm_saved.proofs.Refusing.{cut_refused}
use Rattle.rdm_saved.proofs.laws.cut_image_is_refused.Goals as goal

pub returns : goal.returns
returns c = cut_refused
