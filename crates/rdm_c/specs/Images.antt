-- What C is told of the images in the two areas of its memory.
use Rattle.std.specs.Prelude.{◌≡◌, ℕ, ◌==◌, List, ◌++◌, Option, Some, None, if◌then◌else◌}
use Rattle.rdm_images.specs.declared.decoding.ImageError.{ImageError}
use Rattle.rdm_images.specs.declared.decoding.ImageError.TheVariants.{Cut, Altered, OfAnother}
use Rattle.rdm_images.specs.declared.image.Image.{Image}
use Rattle.rdm_images.specs.declared.memory.Side.{Side}
use Rattle.rdm_images.specs.declared.memory.Side.TheVariants.{First, Second}
use Rattle.rdm_images.specs.ImageText.{image_text, IsImage}
use Rattle.rdm_images.specs.Reading.{held, said}
use Rattle.rdm_images.specs.Saves.{side_after, counter_after}
use Rattle.rdm_c.specs.declared.image.ImageNumbers.{ImageNumbers}
use Rattle.rdm_c.specs.declared.status.Status.{Status}
use Rattle.rdm_c.specs.declared.status.Status.TheVariants.{ImageLength, AlteredImage, ForeignImage}

-- the number of an area
abbrev pub number_of : Side → ℕ
number_of First = 0
number_of Second = 1

-- what the numbers say of an area: the header of the image that it holds, if it holds one
abbrev pub image_in : ImageNumbers → Option Image
image_in n = if n.there == 0 then None else Some (record { counter = n.counter; length = n.length })

-- what it is called that bytes are no image, by the first test that they fail
abbrev pub of_image_error : ImageError → Status
of_image_error Cut = ImageLength
of_image_error Altered = AlteredImage
of_image_error OfAnother = ForeignImage

-- The numbers say what the two areas hold.
pub record AreRead (key : ℕ) (areas : Side → List ℕ) (first second : ImageNumbers) : Type 0 where
  pub first_is : image_in first ≡ said (held key (areas First))
  pub second_is : image_in second ≡ said (held key (areas Second))

-- This is the area that a save of the payload erases and writes, and with this header in front of the payload it is what is written there.
pub record IsNext (key : ℕ) (payload : List ℕ) (areas : Side → List ℕ) (area : ℕ) (header : List ℕ) : Type 0 where
  pub area_is : area ≡ number_of (side_after key areas)
  pub text_is : header ++ payload ≡ image_text key (counter_after key areas) payload
  pub fits : IsImage key (counter_after key areas) payload
