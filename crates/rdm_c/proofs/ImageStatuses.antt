-- The status of a read is DONE exactly where there is an image.
use Rattle.std.proofs.Common.{◌≡◌, ◌↔◌, ℕ, Option, Some, None, true, false, is_some, sym, ap, ◌∙◌, arith}
use Rattle.rdm_images.specs.declared.decoding.ImageError.{ImageError}
use Rattle.rdm_images.specs.declared.decoding.ImageError.TheVariants.{Cut, Altered, OfAnother}
use Rattle.rdm_images.specs.declared.image.Image.{Image}
use Rattle.rdm_c.specs.Images.{of_image_error}
use Rattle.rdm_c.specs.Statuses.{code_of}

is_no_done : (e : ImageError) → code_of (of_image_error e) ≡ 0 → ⊥
is_no_done Cut h = absurd (omega (arith, h))
is_no_done Altered h = absurd (omega (arith, h))
is_no_done OfAnother h = absurd (omega (arith, h))

pub done_with_image : (code : ℕ) (read : Option Image) (image : Image) → code ≡ 0 → read ≡ Some image → (code ≡ 0) ↔ (is_some read ≡ true)
done_with_image code read image done there = (λ _. ap (λ (o : Option Image). is_some o) there, λ _. done)

pub no_done_with_none : (code : ℕ) (read : Option Image) (e : ImageError) → code ≡ code_of (of_image_error e) → read ≡ None → (code ≡ 0) ↔ (is_some read ≡ true)
no_done_with_none code read e fault none = (
  λ done. absurd (is_no_done e (sym fault ∙ done)),
  λ some. absurd (let never : true ≡ false = sym some ∙ ap (λ (o : Option Image). is_some o) none in cc),
)
