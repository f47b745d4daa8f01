-- What is written: nothing that a terminal takes for a command, whatever the lines and the texts of a fixture hold.
use Rattle.std.specs.Prelude.{ℕ, ◌≡◌, ◌≢◌, ◌%◌, Bool, true, ◌==◌, ◌||◌, List, [], ◌∷◌, if◌then◌else◌}
use Rattle.std.specs.List.{flat_map, AllByRecursion}
use Rattle.rdm_frame.specs.Digits.{digits, within}

-- a character of ASCII that is printed
abbrev pub is_printable : ℕ → Bool
is_printable b = within 0x20 b 0x7E

-- a byte of the characters beyond ASCII that the tables have, in UTF-8: ° ² ³ µ are C2 and one of B0 B2 B3 B5, and Ω is CE A9
abbrev pub is_of_tables : ℕ → Bool
is_of_tables b = (b == 0xC2) || (b == 0xB0) || (b == 0xB2) || (b == 0xB3) || (b == 0xB5) || (b == 0xCE) || (b == 0xA9)

-- A byte that may be written: these, and LF.
abbrev pub is_plain : ℕ → Bool
is_plain b = is_printable b || (b == 0x0A) || is_of_tables b

-- Nothing else stands there.
abbrev pub IsPlain : List ℕ → Type 0
IsPlain bytes = AllByRecursion (λ b. is_plain b ≡ true) bytes

-- There are such words, and they are plain: so they are written as they are.
pub record IsFixed (words : List ℕ) : Type 0 where
  pub some : words ≢ []
  pub plain : IsPlain words

-- a byte, which is below 256, as `\x` and its digits
abbrev pub by_digits : ℕ → List ℕ
by_digits b = 0x5C ∷ 0x78 ∷ digits (b % 256 ∷ [])

-- words as they are written: what isn't plain by its digits
unfoldable pub shown_byte : ℕ → List ℕ
shown_byte b = if is_plain b then b ∷ [] else by_digits b

abbrev pub shown : List ℕ → List ℕ
shown words = flat_map shown_byte words

-- A text that comes from outside: a backslash before a quote and a backslash, and what isn't printed by its digits.
unfoldable pub escaped_byte : ℕ → List ℕ
escaped_byte b = if (b == 0x22) || (b == 0x5C) then 0x5C ∷ b ∷ [] else (if is_printable b then b ∷ [] else by_digits b)

abbrev pub escaped : List ℕ → List ℕ
escaped text = flat_map escaped_byte text
