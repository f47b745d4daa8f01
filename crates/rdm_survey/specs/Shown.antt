-- What is written of a text of a fixture, which may hold any bytes.
use Rattle.std.specs.Prelude.{ℕ, ◌%◌, ◌==◌, List, [], ◌∷◌, unwrap_or, if◌then◌else◌}
use Rattle.std.specs.List.{flat_map}
use Rattle.rdm_frame.specs.Digits.{digits, within}
use Rattle.rdm_frame.specs.DigitReading.{byte_in}

-- a byte, which is below 256, as `\x` and its two digits
abbrev pub by_digits : ℕ → List ℕ
by_digits b = 0x5C ∷ 0x78 ∷ digits (b % 256 ∷ [])

-- Printable ASCII stands as it is, but for a backslash, which stands twice; another byte stands by its digits.
unfoldable pub shown_byte : ℕ → List ℕ
shown_byte b = if b == 0x5C then 0x5C ∷ 0x5C ∷ [] else (if within 0x20 b 0x7E then b ∷ [] else by_digits b)

abbrev pub shown : List ℕ → List ℕ
shown text = flat_map shown_byte text

-- the byte that two digits spell
abbrev pub code_of : ℕ → ℕ → ℕ
code_of high low = unwrap_or (byte_in high low) 0

-- The text of which this is written: a backslash stands before two digits behind an `x`, or before another.
abbrev pub unshown : List ℕ → List ℕ
unshown [] = []
unshown (a ∷ []) = a ∷ []
unshown (a ∷ b ∷ []) = if a == 0x5C then b ∷ [] else a ∷ unshown (b ∷ [])
unshown (a ∷ b ∷ c ∷ []) = if a == 0x5C then b ∷ unshown (c ∷ []) else a ∷ unshown (b ∷ c ∷ [])
unshown (a ∷ b ∷ c ∷ d ∷ more) =
    if a == 0x5C then (if b == 0x78 then code_of c d ∷ unshown more else b ∷ unshown (c ∷ d ∷ more))
    else a ∷ unshown (b ∷ c ∷ d ∷ more)
