-- A text that is put into HTML is read back, and is no markup.
use Rattle.std.specs.Prelude.{◌≢◌, option_map}
use Rattle.std.proofs.Common.{◌≡◌, ℕ, ◌<◌, ◌==◌, Bool, true, false, cond, codes, List, [], ◌∷◌, ◌++◌, Option, Some, None, refl, ap, ◌∙◌, arith}
use Rattle.std.specs.List.{AllByRecursion}
use Rattle.std.proofs.lemmas.Bool.Decides.{nat_tests}
use Rattle.rdm_survey.specs.Shown.{shown, unshown}
use Rattle.rdm_survey.proofs.Unshowing.{read_back}
use Rattle.rdm_survey_page.specs.Escaping.{escaped, escaped_byte, is_markup, IsPlain, reading, unescaped}

-- a test that holds gives the number
is_that : (b n : ℕ) → (b == n) ≡ true → b ≡ n
is_that b n e = grind (arith, nat_tests)

is_none : (b : ℕ) → (b == 0x3C) ≡ false → (b == 0x3E) ≡ false → (b == 0x22) ≡ false → is_markup b ≡ false
is_none b p q r = rw (p, q, r) refl

is_not : (b n : ℕ) → (b == n) ≡ false → b ≢ n
is_not b n e = grind (arith, nat_tests)

one_back : (b : ℕ) (rest : List ℕ) → reading None (escaped_byte b ++ rest) ≡ option_map (λ more. b ∷ more) (reading None rest)
unfolding escaped_byte
one_back b rest = by (b == 0x26) (b == 0x3C) (b == 0x3E) (b == 0x22) refl refl refl refl
  where
    by : (p q r s : Bool) → (b == 0x26) ≡ p → (b == 0x3C) ≡ q → (b == 0x3E) ≡ r → (b == 0x22) ≡ s
        → reading None (cond p (codes "&amp;") (cond q (codes "&lt;") (cond r (codes "&gt;") (cond s (codes "&quot;") (b ∷ [])))) ++ rest)
        ≡ option_map (λ more. b ∷ more) (reading None rest)
    by true q r s e f g h = rw (is_that b 0x26 e) refl
    by false true r s e f g h = rw (is_that b 0x3C f) refl
    by false false true s e f g h = rw (is_that b 0x3E g) refl
    by false false false true e f g h = rw (is_that b 0x22 h) refl
    by false false false false e f g h = rw (e, is_none b f g h) refl

pub escaped_back : (text : List ℕ) → unescaped (escaped text) ≡ Some text
escaped_back [] = refl
escaped_back (b ∷ text) = one_back b (escaped text) ∙ ap (λ (t : Option (List ℕ)). option_map (λ more. b ∷ more) t) (escaped_back text)

all_joined : {X : Type 0} (P : X → Type 0) (xs ys : List X) → AllByRecursion P xs → AllByRecursion P ys → AllByRecursion P (xs ++ ys)
all_joined P [] ys h g = g
all_joined P (x ∷ xs) ys h g = (h.0, all_joined P xs ys h.1 g)

plain : (b : ℕ) → (b == 0x3C) ≡ false → (b == 0x3E) ≡ false → (b == 0x22) ≡ false → IsPlain b
plain b p q r = (is_not b 0x3C p, is_not b 0x3E q, is_not b 0x22 r)

byte_plain : (b : ℕ) → AllByRecursion IsPlain (escaped_byte b)
unfolding escaped_byte
byte_plain b = by (b == 0x26) (b == 0x3C) (b == 0x3E) (b == 0x22) refl refl refl
  where
    by : (p q r s : Bool) → (b == 0x3C) ≡ q → (b == 0x3E) ≡ r → (b == 0x22) ≡ s
        → AllByRecursion IsPlain (cond p (codes "&amp;") (cond q (codes "&lt;") (cond r (codes "&gt;") (cond s (codes "&quot;") (b ∷ [])))))
    by true q r s f g h = (plain 0x26 refl refl refl, (plain 0x61 refl refl refl, (plain 0x6D refl refl refl, (plain 0x70 refl refl refl, (plain 0x3B refl refl refl, (tt))))))
    by false true r s f g h = (plain 0x26 refl refl refl, (plain 0x6C refl refl refl, (plain 0x74 refl refl refl, (plain 0x3B refl refl refl, (tt)))))
    by false false true s f g h = (plain 0x26 refl refl refl, (plain 0x67 refl refl refl, (plain 0x74 refl refl refl, (plain 0x3B refl refl refl, (tt)))))
    by false false false true f g h =
        (plain 0x26 refl refl refl, (plain 0x71 refl refl refl, (plain 0x75 refl refl refl, (plain 0x6F refl refl refl, (plain 0x74 refl refl refl, (plain 0x3B refl refl refl, (tt)))))))
    by false false false false f g h = (plain b f g h, tt)

pub escaped_plain : (text : List ℕ) → AllByRecursion IsPlain (escaped text)
escaped_plain [] = tt
escaped_plain (b ∷ text) = all_joined IsPlain (escaped_byte b) (escaped text) (byte_plain b) (escaped_plain text)

pub shown_back : (text : List ℕ) → AllByRecursion (λ byte. byte < 256) text → option_map unshown (unescaped (escaped (shown text))) ≡ Some text
shown_back text fits = ap (λ (t : Option (List ℕ)). option_map unshown t) (escaped_back (shown text)) ∙ ap (λ (t : List ℕ). Some t) (read_back text fits)
