-- An escaped text is read back.
use Rattle.std.specs.Prelude.{ℕ, ◌==◌, List, [], ◌∷◌, unwrap_or, if◌then◌else◌}
use Rattle.rdm_frame.specs.DigitReading.{byte_in}

-- the byte that two digits spell
abbrev pub code_of : ℕ → ℕ → ℕ
code_of high low = unwrap_or (byte_in high low) 0

-- The text that is escaped so: a backslash stands before two digits behind an `x`, or before the byte that is meant.
abbrev pub unescaped : List ℕ → List ℕ
unescaped [] = []
unescaped (a ∷ []) = a ∷ []
unescaped (a ∷ b ∷ []) = if a == 0x5C then b ∷ [] else a ∷ unescaped (b ∷ [])
unescaped (a ∷ b ∷ c ∷ []) = if a == 0x5C then b ∷ unescaped (c ∷ []) else a ∷ unescaped (b ∷ c ∷ [])
unescaped (a ∷ b ∷ c ∷ d ∷ more) =
    if a == 0x5C then (if b == 0x78 then code_of c d ∷ unescaped more else b ∷ unescaped (c ∷ d ∷ more))
    else a ∷ unescaped (b ∷ c ∷ d ∷ more)
