use Rattle.rdm_images.proofs.Erasing.{erased_holds_none, erased_sound}
use Rattle.rdm_images.proofs.laws.erased_area_is_sound.Goals as goal

pub returns : goal.returns
returns c = λ key area h. (erased_holds_none key area h, erased_sound area h)
