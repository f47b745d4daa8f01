-- What is loaded while an image takes the place of the older one, and when it has.
use Rattle.std.proofs.Common.{◌≡◌, ℕ, ◌⊎◌, List, ◌++◌, Some, refl, ◌∙◌, inl, inr}
use Rattle.rdm_images.specs.declared.memory.Side.{Side}
use Rattle.rdm_images.specs.ImageText.{image_text, IsImage}
use Rattle.rdm_images.specs.Areas.{other, loaded, AreSound}
use Rattle.rdm_images.specs.Saves.{side_after, counter_after, IsErasing, IsWriting}
use Rattle.rdm_images.proofs.Holding.{held_when_risen, sound_when_risen}
use Rattle.rdm_images.proofs.Newest.{new_is_loaded, old_is_loaded, whole_is_loaded, all_sound}
use Rattle.rdm_images.proofs.Writing.{written_held, torn_held, torn_sound}

pub erasing_is_whole : (key : ℕ) (before after : Side → List ℕ) (side : Side) → side_after key before ≡ side → AreSound before
    → IsErasing side before after → (loaded key after ≡ loaded key before) × AreSound after
erasing_is_whole key before after side e sound is = (
  old_is_loaded key before after side e is.same (held_when_risen key (before side) (after side) is.torn (sound side)),
  all_sound before after side is.same (λ s. sound_when_risen (before side) (after side) is.torn s) sound,
)

pub writing_is_whole : (key : ℕ) (payload : List ℕ) (before erased after : Side → List ℕ) (side : Side)
    → IsImage key (counter_after key before) payload → side_after key before ≡ side → AreSound before
    → erased (other side) ≡ before (other side) → IsWriting side (image_text key (counter_after key before) payload) erased after
    → ((loaded key after ≡ loaded key before) ⊎ (loaded key after ≡ Some payload)) × AreSound after
writing_is_whole key payload before erased after side fits e sound same is =
    let n : ℕ = counter_after key before in
    let torn = torn_held key n payload (image_text key n payload) _ (after side) fits refl is.torn in (
      whole_is_loaded key before after side n payload e refl (is.same ∙ same) (elim torn [
        | inl none ↦ inl none
        | inr new ↦ inr (inr new)
      ]),
      all_sound before after side (is.same ∙ same) (λ _. torn_sound key n payload (image_text key n payload) _ (after side) fits refl is.torn) sound,
    )

pub finished_is_loaded : (key : ℕ) (payload rest : List ℕ) (before after : Side → List ℕ) (side : Side)
    → IsImage key (counter_after key before) payload → side_after key before ≡ side → after (other side) ≡ before (other side)
    → after side ≡ image_text key (counter_after key before) payload ++ rest → loaded key after ≡ Some payload
finished_is_loaded key payload rest before after side fits e same there =
    let n : ℕ = counter_after key before in
    new_is_loaded key before after side n payload e refl same (written_held key n payload (image_text key n payload) rest (after side) fits refl there)
