-- An escaped text is read back.
use Rattle.std.proofs.Common.{◌≡◌, ℕ, ◌+◌, ◌*◌, ◌/◌, ◌%◌, ◌<◌, ◌==◌, Bool, true, false, cond, ◌||◌, List, [], ◌∷◌, ◌++◌, Some, refl, ap, ◌∙◌, arith}
use Rattle.std.specs.List.{AllByRecursion}
use Rattle.std.proofs.lemmas.Bool.Decides.{nat_tests}
use Rattle.rdm_frame.specs.Digits.{digit}
use Rattle.rdm_frame.specs.DigitReading.{digit_value, byte_in}
use Rattle.rdm_words.specs.Plain.{is_printable, by_digits, escaped_byte, escaped}
use Rattle.rdm_words.specs.Unescaping.{code_of, unescaped}

-- a byte that is no backslash
as_it_is : (a : ℕ) (rest : List ℕ) → (a == 0x5C) ≡ false → unescaped (a ∷ rest) ≡ a ∷ unescaped rest
as_it_is a [] h = refl
as_it_is a (b ∷ []) h = rw h refl
as_it_is a (b ∷ c ∷ []) h = rw h refl
as_it_is a (b ∷ c ∷ d ∷ more) h = rw h refl

-- a byte behind a backslash
marked : (b : ℕ) (rest : List ℕ) → (b == 0x78) ≡ false → unescaped (0x5C ∷ b ∷ rest) ≡ b ∷ unescaped rest
marked b [] h = refl
marked b (c ∷ []) h = refl
marked b (c ∷ d ∷ more) h = rw h refl

digit_back : (n : ℕ) → n < 16 → digit_value (digit n) ≡ Some n
digit_back n h = grind (arith, nat_tests)

code_back : (b : ℕ) → b < 256 → code_of (digit (b % 256 / 16)) (digit (b % 256 % 16)) ≡ b
unfolding byte_in
code_back b h =
    let whole : 16 * (b % 256 / 16) + b % 256 % 16 ≡ b = omega arith in
    rw (digit_back (b % 256 / 16) (omega arith), digit_back (b % 256 % 16) (omega arith)) whole

no_x : (b : ℕ) → ((b == 0x22) || (b == 0x5C)) ≡ true → (b == 0x78) ≡ false
no_x b h = grind (arith, nat_tests)

no_backslash : (b : ℕ) → ((b == 0x22) || (b == 0x5C)) ≡ false → (b == 0x5C) ≡ false
no_backslash b h = grind (arith, nat_tests)

one_back : (b : ℕ) (rest : List ℕ) → b < 256 → unescaped (escaped_byte b ++ rest) ≡ b ∷ unescaped rest
unfolding escaped_byte
one_back b rest h = by ((b == 0x22) || (b == 0x5C)) (is_printable b) refl
  where
    by : (x y : Bool) → ((b == 0x22) || (b == 0x5C)) ≡ x
        → unescaped (cond x (0x5C ∷ b ∷ []) (cond y (b ∷ []) (by_digits b)) ++ rest) ≡ b ∷ unescaped rest
    by true y e = marked b rest (no_x b e)
    by false true e = as_it_is b rest (no_backslash b e)
    by false false e = ap (λ (c : ℕ). c ∷ unescaped rest) (code_back b h)

pub read_back : (text : List ℕ) → AllByRecursion (λ byte. byte < 256) text → unescaped (escaped text) ≡ text
read_back [] fits = refl
read_back (b ∷ text) fits = one_back b (escaped text) fits.0 ∙ ap (λ (rest : List ℕ). b ∷ rest) (read_back text fits.1)
