-- What holds of every image.
use Rattle.std.specs.Prelude.{◌≡◌, ◌≢◌, ℕ, ◌<◌, List, ◌++◌, length, take, slice_index, slice_set, Some, None}
use Rattle.rdm_images.specs.declared.decoding.ImageError.TheVariants.{Cut}
use Rattle.rdm_images.specs.ImageText.{image_text, IsImage}
use Rattle.rdm_images.specs.Areas.{IsErased, IsSound}
use Rattle.rdm_images.specs.Reading.{held, saved, IsFirstFault}

-- What is written of an image is read back, whatever stands behind it.
abbrev pub ImageIsReadBack : Type 0
ImageIsReadBack = (key counter : ℕ) (payload rest : List ℕ) → IsImage key counter payload
    → held key (image_text key counter payload ++ rest) ≡ Some (saved counter payload)

-- An image that is cut anywhere is refused as cut.
abbrev pub CutIsRefused : Type 0
CutIsRefused = (key counter n : ℕ) (payload : List ℕ) → IsImage key counter payload → n < length (image_text key counter payload)
    → IsFirstFault Cut key (take n (image_text key counter payload)) × (held key (take n (image_text key counter payload)) ≡ None)

-- An image in which one byte is another is none, whatever stands behind it.
abbrev pub AlteredIsRefused : Type 0
AlteredIsRefused = (key counter k byte : ℕ) (payload rest : List ℕ) → IsImage key counter payload → ((i : ℕ) → slice_index rest i < 256)
    → k < length (image_text key counter payload) → byte < 256 → byte ≢ slice_index (image_text key counter payload) k
    → held key (slice_set (image_text key counter payload ++ rest) k byte) ≡ None

-- An area that is erased holds no image, and its check isn't too low.
abbrev pub ErasedIsSound : Type 0
ErasedIsSound = (key : ℕ) (area : List ℕ) → IsErased area → (held key area ≡ None) × IsSound area
