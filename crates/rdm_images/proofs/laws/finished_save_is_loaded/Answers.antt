use Rattle.std.proofs.Common.{refl}
use Rattle.rdm_images.proofs.Saving.{finished_is_loaded}
use Rattle.rdm_images.proofs.laws.finished_save_is_loaded.Goals as goal

pub returns : goal.returns
returns c = λ key payload rest before after fits same there. finished_is_loaded key payload rest before after _ fits refl same there
