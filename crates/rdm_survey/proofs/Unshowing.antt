-- A text that is written is read back.
use Rattle.std.proofs.Common.{◌≡◌, ℕ, ◌+◌, ◌*◌, ◌/◌, ◌%◌, ◌<◌, ◌==◌, Bool, true, false, cond, List, [], ◌∷◌, ◌++◌, Some, refl, ap, ◌∙◌, arith}
use Rattle.std.specs.List.{AllByRecursion}
use Rattle.std.proofs.lemmas.Bool.Decides.{nat_tests}
use Rattle.rdm_frame.specs.Digits.{digit, within}
use Rattle.rdm_frame.specs.DigitReading.{digit_value, byte_in}
use Rattle.rdm_survey.specs.Shown.{by_digits, code_of, shown, shown_byte, unshown}

-- a byte that is no backslash
as_it_is : (a : ℕ) (rest : List ℕ) → (a == 0x5C) ≡ false → unshown (a ∷ rest) ≡ a ∷ unshown rest
as_it_is a [] h = refl
as_it_is a (b ∷ []) h = rw h refl
as_it_is a (b ∷ c ∷ []) h = rw h refl
as_it_is a (b ∷ c ∷ d ∷ more) h = rw h refl

-- a backslash behind a backslash
twice : (rest : List ℕ) → unshown (0x5C ∷ 0x5C ∷ rest) ≡ 0x5C ∷ unshown rest
twice [] = refl
twice (c ∷ []) = refl
twice (c ∷ d ∷ more) = refl

digit_back : (n : ℕ) → n < 16 → digit_value (digit n) ≡ Some n
digit_back n h = grind (arith, nat_tests)

code_back : (b : ℕ) → b < 256 → code_of (digit (b % 256 / 16)) (digit (b % 256 % 16)) ≡ b
unfolding byte_in
code_back b h =
    let whole : 16 * (b % 256 / 16) + b % 256 % 16 ≡ b = omega arith in
    rw (digit_back (b % 256 / 16) (omega arith), digit_back (b % 256 % 16) (omega arith)) whole

slash : (b : ℕ) → (b == 0x5C) ≡ true → b ≡ 0x5C
slash b h = grind (arith, nat_tests)

one_back : (b : ℕ) (rest : List ℕ) → b < 256 → unshown (shown_byte b ++ rest) ≡ b ∷ unshown rest
unfolding shown_byte
one_back b rest h = by (b == 0x5C) (within 0x20 b 0x7E) refl
  where
    by : (x y : Bool) → (b == 0x5C) ≡ x
        → unshown (cond x (0x5C ∷ 0x5C ∷ []) (cond y (b ∷ []) (by_digits b)) ++ rest) ≡ b ∷ unshown rest
    by true y e = rw (slash b e) (twice rest)
    by false true e = as_it_is b rest e
    by false false e = ap (λ (c : ℕ). c ∷ unshown rest) (code_back b h)

pub read_back : (text : List ℕ) → AllByRecursion (λ byte. byte < 256) text → unshown (shown text) ≡ text
read_back [] fits = refl
read_back (b ∷ text) fits = one_back b (shown text) fits.0 ∙ ap (λ (rest : List ℕ). b ∷ rest) (read_back text fits.1)
