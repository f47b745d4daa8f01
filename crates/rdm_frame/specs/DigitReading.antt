-- Reading hexadecimal digits, as the code does it: the bytes, the number or the UID that a text spells.
use Rattle.std.specs.Prelude.{ℕ, ◌+◌, ◌-◌, ◌*◌, List, [], ◌∷◌, length, take, drop, slice_index, Option, Some, None, option_and_then, option_map, ◌==◌, if◌then◌else◌}
use Rattle.std.specs.Int.{Width, w16, w32, byte_len, from_be_bytes}
use Rattle.rdm_frame.specs.declared.uid.Uid.{Uid}
use Rattle.rdm_frame.specs.Digits.{within}

infixl 10 ◌>>=◌
abbrev pub ◌>>=◌ : {A B : Type 0} → Option A → (A → Option B) → Option B
o >>= f = option_and_then f o

-- the value of a digit: `0` to `9`, `A` to `F` or `a` to `f`
abbrev pub digit_value : ℕ → Option ℕ
digit_value b =
    if within 48 b 57 then Some (b - 48)
    else (if within 65 b 70 then Some (b - 65 + 10)
    else (if within 97 b 102 then Some (b - 97 + 10)
    else None))

-- the byte that two digits spell, the higher first
unfoldable pub byte_in : ℕ → ℕ → Option ℕ
byte_in high low = do
  h ← digit_value high
  l ← digit_value low
  Some (16 * h + l)

-- the bytes that a word spells, two digits each
abbrev pub bytes_in : List ℕ → Option (List ℕ)
bytes_in [] = Some []
bytes_in (digit ∷ []) = None
bytes_in (high ∷ low ∷ more) = do
  byte ← byte_in high low
  bytes ← bytes_in more
  Some (byte ∷ bytes)

-- the number that a word spells, most significant byte first, with all the digits of its width
unfoldable pub number_in : Width → List ℕ → Option ℕ
number_in width word = if length word == 2 * byte_len width then option_map (from_be_bytes width) (bytes_in word) else None

-- the UID that a word spells: four digits, a colon, eight digits
unfoldable pub uid_in : List ℕ → Option Uid
uid_in word = do
  maker ← number_in w16 (take 4 word)
  device ← number_in w32 (drop 5 word)
  if slice_index word 4 == 58 then Some (record { maker = maker; device = device }) else None
