-- What image stands at the front of bytes, and which of the three tests they fail first.
use Rattle.std.specs.Prelude.{◌≡◌, ℕ, ◌+◌, ◌-◌, ◌^◌, ◌≤◌, ◌==◌, ◌&&◌, nat_le, Bool, List, length, take, drop, sum, Option, Some, None, if◌then◌else◌}
use Rattle.rdm_frame.specs.Reading.{word_at, long_at}
use Rattle.rdm_images.specs.declared.image.Image.{Image}
use Rattle.rdm_images.specs.declared.decoding.ImageError.{ImageError}
use Rattle.rdm_images.specs.declared.decoding.ImageError.TheVariants.{Cut, Altered, OfAnother}

-- what the header says
abbrev pub image_of : List ℕ → Image
image_of t = record { counter = word_at t 8; length = word_at t 10 }

abbrev pub payload_at : List ℕ → List ℕ
payload_at t = take (word_at t 10) (drop 12 t)

-- what the check and the bytes behind it come to: 4294967295 in an image
abbrev pub total : List ℕ → ℕ
total t = long_at t 0 + (sum (take 8 (drop 4 t)) + sum (payload_at t))

-- an image, as it is kept: its counter and its payload
pub record Saved : Type 0 where
  pub counter : ℕ
  pub payload : List ℕ

abbrev pub saved : ℕ → List ℕ → Saved
saved counter payload = record { counter = counter; payload = payload }

abbrev pub saved_at : List ℕ → Saved
saved_at t = saved (word_at t 8) (payload_at t)

-- All bytes that its header says are there, with the right check, and it is of this key.
abbrev pub is_image : ℕ → List ℕ → Bool
is_image key t = nat_le 12 (length t) && (nat_le (12 + word_at t 10) (length t) && (total t == 2 ^ 32 - 1 && long_at t 4 == key))

-- The one image of this key that these bytes begin with, if they do.
unfoldable pub held : ℕ → List ℕ → Option Saved
held key t = if is_image key t then Some (saved_at t) else None

-- what its header says
abbrev pub said : Option Saved → Option Image
said None = None
said (Some s) = Some (record { counter = s.counter; length = length s.payload })

-- The test that each refusal names.
abbrev pub Passes : ImageError → ℕ → List ℕ → Type 0
Passes Cut key t = (12 ≤ length t) × (12 + word_at t 10 ≤ length t)
Passes Altered key t = total t ≡ 2 ^ 32 - 1
Passes OfAnother key t = long_at t 4 ≡ key

-- the tests before it
abbrev pub PassesBefore : ImageError → ℕ → List ℕ → Type 0
PassesBefore Cut key t = Unit {0}
PassesBefore Altered key t = Passes Cut key t
PassesBefore OfAnother key t = Passes Cut key t × Passes Altered key t

-- It is the first test that these bytes fail.
abbrev pub IsFirstFault : ImageError → ℕ → List ℕ → Type 0
IsFirstFault e key t = PassesBefore e key t × ((Passes e key t) → ⊥)

abbrev pub PassesAll : ℕ → List ℕ → Type 0
PassesAll key t = PassesBefore OfAnother key t × Passes OfAnother key t
