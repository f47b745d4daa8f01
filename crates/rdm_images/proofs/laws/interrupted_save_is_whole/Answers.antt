use Rattle.std.proofs.Common.{refl}
use Rattle.rdm_images.proofs.Saving.{erasing_is_whole, writing_is_whole}
use Rattle.rdm_images.proofs.laws.interrupted_save_is_whole.Goals as goal

pub returns : goal.returns
returns c = λ key payload before erased written fits sound erasing.
    let out = erasing_is_whole key before erased _ refl sound erasing in
    (out.0, out.1, λ writing. writing_is_whole key payload before erased written _ fits refl sound erasing.same writing)
