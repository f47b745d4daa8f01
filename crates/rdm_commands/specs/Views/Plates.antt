-- The bytes that a plate keeps its text in.
use Rattle.std.specs.Prelude.{◌≡◌, ℕ, ◌-◌, ◌≤◌, List, ◌++◌, length, take, drop, replicate}
use Rattle.std.proofs.Common.{sym, subst, ap, ◌∙◌}
use Rattle.std.proofs.lemmas.List.{take-append-drop, length-take-le}

-- a text with 00 after it, 32 bytes in all
abbrev pub padded : List ℕ → List ℕ
padded text = text ++ replicate (32 - length text) 0

-- There are 32 bytes, of which the first N are the text, and those after it are 00.
pub record HoldsText (bytes : List ℕ) (len : ℕ) : Type 0 where
  pub fits : len ≤ 32
  pub whole : length bytes ≡ 32
  pub blank : drop len bytes ≡ replicate (32 - len) 0

-- So the text gives the bytes and their number back.
pub length_again : (bytes : List ℕ) (len : ℕ) → HoldsText bytes len → length (take len bytes) ≡ len
length_again bytes len holds = length-take-le len bytes (subst (λ (n : ℕ). len ≤ n) (sym holds.whole) holds.fits)

pub padded_again : (bytes : List ℕ) (len : ℕ) → HoldsText bytes len → padded (take len bytes) ≡ bytes
padded_again bytes len holds =
    let text : List ℕ = take len bytes in
    ap (λ (n : ℕ). text ++ replicate (32 - n) 0) (length_again bytes len holds) ∙ ap (λ (rest : List ℕ). text ++ rest) (sym holds.blank) ∙ take-append-drop len bytes
