-- What two areas hold while an image takes the place of the older one, and what is loaded if power fails meanwhile.
use Rattle.std.specs.Prelude.{◌≡◌, ◌⊎◌, ℕ, List, ◌++◌, length, drop, Some}
use Rattle.rdm_images.specs.declared.memory.Side.{Side}
use Rattle.rdm_images.specs.ImageText.{image_text, IsImage}
use Rattle.rdm_images.specs.Areas.{other, newest, loaded, said_of, next_side, next_counter, Rises, IsErased, AreSound}

-- the area that a save erases and writes: not that of the newest image of this key
abbrev pub side_after : ℕ → (Side → List ℕ) → Side
side_after key areas = next_side (said_of (newest key areas))

-- the counter of the image that is written there
abbrev pub counter_after : ℕ → (Side → List ℕ) → ℕ
counter_after key areas = next_counter (said_of (newest key areas))

-- What an erase of this area leaves, over or not: each byte is as it was or higher, and the other area is as it was.
pub record IsErasing (side : Side) (before after : Side → List ℕ) : Type 0 where
  pub torn : Rises (before side) (after side)
  pub same : after (other side) ≡ before (other side)

-- What a write of these bytes at the front of this area leaves, over or not. The area was erased; each byte is as given or higher.
pub record IsWriting (side : Side) (bytes : List ℕ) (before after : Side → List ℕ) : Type 0 where
  pub erased : IsErased (before side)
  pub torn : Rises (bytes ++ drop (length bytes) (before side)) (after side)
  pub same : after (other side) ≡ before (other side)

-- While the area is erased it is the old values that are loaded, and while it is written the old or the new, whole.
abbrev pub InterruptedIsWhole : Type 0
InterruptedIsWhole = (key : ℕ) (payload : List ℕ) (before erased written : Side → List ℕ)
    → IsImage key (counter_after key before) payload → AreSound before → IsErasing (side_after key before) before erased
    → (loaded key erased ≡ loaded key before) × AreSound erased
    × (IsWriting (side_after key before) (image_text key (counter_after key before) payload) erased written
    → ((loaded key written ≡ loaded key before) ⊎ (loaded key written ≡ Some payload)) × AreSound written)

-- When the image stands at the front of that area, whatever stands behind it, the new values are loaded.
abbrev pub FinishedIsLoaded : Type 0
FinishedIsLoaded = (key : ℕ) (payload rest : List ℕ) (before after : Side → List ℕ)
    → IsImage key (counter_after key before) payload → after (other (side_after key before)) ≡ before (other (side_after key before))
    → after (side_after key before) ≡ image_text key (counter_after key before) payload ++ rest
    → loaded key after ≡ Some payload
