-- Bytes and numbers in hexadecimal digits: written in upper case, read in either.
use Rattle.std.specs.Prelude.{◌≡◌, ℕ, ◌+◌, ◌-◌, ◌/◌, ◌%◌, ◌<◌, ◌^◌, Bool, nat_le, nat_lt, ◌&&◌, List, [], ◌∷◌, map, if◌then◌else◌}
use Rattle.std.specs.List.{flat_map, AllByRecursion}
use Rattle.std.specs.Int.{Width, byte_len, to_be_bytes}

-- the digit of a number below 16, in upper case
abbrev pub digit : ℕ → ℕ
digit n = if nat_lt n 10 then 48 + n else 55 + n

-- What is written of bytes: two digits for each, the higher first.
abbrev pub digits : List ℕ → List ℕ
digits bytes = flat_map (λ byte. digit (byte / 16) ∷ digit (byte % 16) ∷ []) bytes

abbrev pub within : ℕ → ℕ → ℕ → Bool
within low n high = nat_le low n && nat_le n high

-- a letter in upper case, and what isn't a letter as it is
abbrev pub upper : ℕ → ℕ
upper b = if within 97 b 122 then b - 32 else b

-- The text spells these bytes: in upper case it is what is written of them.
pub record SpellsBytes (text bytes : List ℕ) : Type 0 where
  pub printed : map upper text ≡ digits bytes
  pub fits : AllByRecursion (λ byte. byte < 256) bytes

-- The text spells this number: all bytes of its width, most significant byte first.
abbrev pub SpellsNumber : Width → List ℕ → ℕ → Type 0
SpellsNumber width text n = (n < 256 ^ byte_len width) × SpellsBytes text (to_be_bytes width n)
