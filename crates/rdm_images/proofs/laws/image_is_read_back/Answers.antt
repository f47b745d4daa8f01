use Rattle.rdm_images.proofs.Texts.{text_held}
use Rattle.rdm_images.proofs.laws.image_is_read_back.Goals as goal

pub returns : goal.returns
returns c = λ key counter payload rest fits. text_held key counter payload rest fits
