-- Byte strings in one.
use Rattle.std.specs.Prelude.{ℕ, ◌<◌, ◌^◌, List, [], ◌∷◌, ◌++◌, length, All}
use Rattle.std.specs.Int.{w16, to_be_bytes}

-- each behind its length, which is two bytes, the most significant first
abbrev pub packed : List (List ℕ) → List ℕ
packed [] = []
packed (frame ∷ others) = to_be_bytes w16 (length frame) ++ frame ++ packed others

-- each length fits its two bytes
abbrev pub ArePackable : List (List ℕ) → Type 0
ArePackable frames = All (λ frame. length frame < 2 ^ 16) frames
