-- The two areas of a memory, and which of their images is the newer.
use Rattle.std.specs.Prelude.{◌≡◌, ℕ, ◌+◌, ◌-◌, ◌%◌, ◌^◌, ◌<◌, ◌≤◌, ◌==◌, Bool, List, [], ◌∷◌, All, Option, Some, None, length, if◌then◌else◌}
use Rattle.rdm_images.specs.declared.memory.Side.{Side}
use Rattle.rdm_images.specs.declared.memory.Side.TheVariants.{First, Second}
use Rattle.rdm_images.specs.declared.image.Image.{Image}
use Rattle.rdm_images.specs.Reading.{Saved, held, total}

abbrev pub other : Side → Side
other First = Second
other Second = First

-- each byte is as it was or higher
abbrev pub Rises : List ℕ → List ℕ → Type 0
Rises [] [] = Unit {0}
Rises [] (new ∷ news) = ⊥
Rises (old ∷ olds) [] = ⊥
Rises (old ∷ olds) (new ∷ news) = (old ≤ new) × (new < 256) × Rises olds news

abbrev pub IsErased : List ℕ → Type 0
IsErased area = All (λ byte. byte ≡ 0xFF) area

-- The check of this area isn't too low for its bytes, if it has room for a header. So it is of an image and of what is left of
-- one, and of an area that is erased: 0xFFFFFFFF is never too low. Bytes that rise don't change that, and make no image of
-- what was none.
abbrev pub IsSound : List ℕ → Type 0
IsSound area = 12 ≤ length area → 2 ^ 32 - 1 ≤ total area

abbrev pub AreSound : (Side → List ℕ) → Type 0
AreSound areas = (side : Side) → IsSound (areas side)

-- Its counter is the next one, modulo 65536.
abbrev pub is_next : Saved → Saved → Bool
is_next older newer = newer.counter % 2 ^ 16 == (older.counter + 1) % 2 ^ 16

-- Which area of two holds the newest image. Of two images it is the one whose counter is the next after the other's.
abbrev pub newest_of : Option Saved → Option Saved → Option (Side × Saved)
newest_of None None = None
newest_of None (Some second) = Some (Second, second)
newest_of (Some first) None = Some (First, first)
newest_of (Some first) (Some second) = if is_next first second then Some (Second, second) else Some (First, first)

abbrev pub newest : ℕ → (Side → List ℕ) → Option (Side × Saved)
newest key areas = newest_of (held key (areas First)) (held key (areas Second))

abbrev pub payload_of : Option (Side × Saved) → Option (List ℕ)
payload_of None = None
payload_of (Some found) = Some found.1.payload

-- What is loaded: the payload of the newest image of this key, or nothing if there is none.
abbrev pub loaded : ℕ → (Side → List ℕ) → Option (List ℕ)
loaded key areas = payload_of (newest key areas)

-- ---- what the headers say

abbrev pub said_of : Option (Side × Saved) → Option (Side × Image)
said_of None = None
said_of (Some found) = Some (found.0, record { counter = found.1.counter; length = length found.1.payload })

-- newest_of, by what the headers say
abbrev pub said_by : Option Image → Option Image → Option (Side × Image)
said_by None None = None
said_by None (Some second) = Some (Second, second)
said_by (Some first) None = Some (First, first)
said_by (Some first) (Some second) =
    if second.counter % 2 ^ 16 == (first.counter + 1) % 2 ^ 16 then Some (Second, second) else Some (First, first)

-- where the next image goes, and its counter
abbrev pub next_side : Option (Side × Image) → Side
next_side None = First
next_side (Some found) = other found.0

abbrev pub next_counter : Option (Side × Image) → ℕ
next_counter None = 0
next_counter (Some found) = (found.1.counter + 1) % 2 ^ 16
