-- The bytes of a disk: where its two areas lie, what a call that puts bytes makes of them, and what one that fails may leave.
use Rattle.std.specs.Prelude.{◌≡◌, ◌⊎◌, ℕ, ◌+◌, ◌≤◌, ◌<◌, List, ◌++◌, take, drop, length, slice_index}
use Rattle.rdm_images.specs.declared.memory.Side.{Side}
use Rattle.rdm_images.specs.declared.memory.Side.TheVariants.{First, Second}

-- A disk has exactly the bytes of two areas.
pub record IsDisk (disk : List ℕ) : Type 0 where
  pub size : length disk ≡ 73728
  pub byte : (i : ℕ) → slice_index disk i < 256

-- where an area begins
abbrev pub place_of : Side → ℕ
place_of First = 0
place_of Second = 36864

-- the two areas, one behind the other
abbrev pub areas_in : List ℕ → Side → List ℕ
areas_in disk side = take 36864 (drop (place_of side) disk)

-- what a disk is to hold after these bytes were put at a place of it: there these, and elsewhere what it held
abbrev pub put_in : ℕ → List ℕ → List ℕ → List ℕ
put_in place bytes disk = take place disk ++ (bytes ++ drop (place + length bytes) disk)

abbrev pub IsBetween : ℕ → ℕ → ℕ → Type 0
IsBetween a b byte = ((a ≤ byte) × (byte ≤ b)) ⊎ ((b ≤ byte) × (byte ≤ a))

-- What a call that fails may leave, or one in whose midst power fails: each byte is what it was, what it was to become, or between
-- the two. So bytes that weren't to change stay.
abbrev pub IsTorn : List ℕ → List ℕ → List ℕ → Type 0
IsTorn old wanted left = (i : ℕ) → IsBetween (slice_index old i) (slice_index wanted i) (slice_index left i)
