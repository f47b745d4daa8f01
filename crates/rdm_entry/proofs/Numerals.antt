-- Words of digits are read exactly as the numbers that they write.
use Rattle.std.proofs.Common.{◌≡◌, ◌≢◌, ℕ, ◌<◌, ◌≤◌, ◌^◌, Bool, true, false, cond, leb, ltb, List, [], ◌∷◌, ◌&&◌, ◌==◌, length, get_or, Some, None, refl, sym, ap, subst, ◌∙◌, zero, suc, rules, arith}
use Rattle.std.specs.Prelude.{Result, Ok, Err}
use Rattle.std.specs.Char.{is_digit, digit_value}
use Rattle.std.specs.List.{list_all}
use Rattle.std.specs.Result.{result_ok, OkIff}
use Rattle.std.specs.Str.{IsUtf8, IsAscii}
use Rattle.std.specs.Str.Parse.{AllDigits, IsNumeral, digits_value, without_leading_plus, ParsesUnsigned}
use Rattle.std.proofs.lemmas.Str.{IsUtf8-from_ascii}
use Rattle.std.proofs.lemmas.Int.Digits.{digits_value-lt}
use Rattle.std.proofs.lemmas.Bool.Decides.{nat_tests}
use Rattle.std.proofs.lemmas.Bool.{leb-true, ltb-true}
use Rattle.std.proofs.Math.Nat.{pow-le-pow_left, pow-le-pow_right}
use Rattle.rdm_entry.specs.Numerals.{numeral_in, is_numeral}

both : (x y : Bool) → (x && y) ≡ true → (x ≡ true) × (y ≡ true)
both true y h = (refl, h)
both false y h = absurd cc

not_true : (b : Bool) → (b ≡ true → ⊥) → b ≡ false
not_true true h = absurd (h refl)
not_true false h = refl

all_from : (radix : ℕ) (ds : List ℕ) → list_all (λ c. is_digit c radix) ds ≡ true → AllDigits radix ds
all_from radix [] h = search rules
all_from radix (c ∷ cs) h = let b = both (is_digit c radix) (list_all (λ c. is_digit c radix) cs) h in (ltb-true _ _ b.0, all_from radix cs b.1)

all_to : (radix : ℕ) (ds : List ℕ) → AllDigits radix ds → list_all (λ c. is_digit c radix) ds ≡ true
all_to radix [] d = refl
all_to radix (c ∷ cs) d = let lt : ltb (digit_value c) radix ≡ true = grind (arith, nat_tests, d.0) in rw (lt, all_to radix cs d.1) refl

digit_is_ascii : (c : ℕ) → digit_value c < 16 → c < 128
digit_is_ascii c h = grind (arith, nat_tests)

ascii_from : (radix : ℕ) (ds : List ℕ) → radix ≤ 16 → AllDigits radix ds → IsAscii ds
ascii_from radix [] few d i = omega arith
ascii_from radix (c ∷ cs) few d zero = digit_is_ascii c (omega (arith, d.0))
ascii_from radix (c ∷ cs) few d (suc i) = ascii_from radix cs few d.1 i

unnumbered : (radix : ℕ) (word : List ℕ) → is_numeral radix word ≡ false → None ≡ numeral_in radix word
unfolding numeral_in
unnumbered radix word h = rw h refl

no_digits : (x y z : Bool) → z ≡ false → (x && (y && z)) ≡ false
no_digits false y z h = refl
no_digits true false z h = refl
no_digits true true z h = h

not_digits : (radix : ℕ) (word : List ℕ) → list_all (λ c. is_digit c radix) word ≡ false → None ≡ numeral_in radix word
not_digits radix word h = unnumbered radix word (no_digits (ltb 0 (length word)) (leb (length word) 10) (list_all (λ c. is_digit c radix) word) h)

pub too_long : (radix : ℕ) (word : List ℕ) → 10 < length word → None ≡ numeral_in radix word
too_long radix word long =
    let le : leb (length word) 10 ≡ false = grind (arith, nat_tests) in
    let lt : ltb 0 (length word) ≡ true = grind (arith, nat_tests) in
    unnumbered radix word (rw (lt, le) refl)

pub empty : (radix : ℕ) (word : List ℕ) → length word ≡ 0 → None ≡ numeral_in radix word
empty radix [] h = unnumbered radix [] refl
empty radix (c ∷ cs) h = absurd (omega arith)

plus_is_no_digit : (radix : ℕ) → radix ≤ 16 → is_digit 43 radix ≡ false
plus_is_no_digit radix few = grind (arith, nat_tests)

pub signed : (radix : ℕ) (word : List ℕ) → radix ≤ 16 → get_or word 0 0 ≡ 43 → None ≡ numeral_in radix word
signed radix [] few h = absurd (omega arith)
signed radix (c ∷ cs) few h = not_digits radix (c ∷ cs) (rw (h, plus_is_no_digit radix few) refl)

pub not_text : (radix : ℕ) (word : List ℕ) → radix ≤ 16 → (IsUtf8 word → ⊥) → None ≡ numeral_in radix word
not_text radix word few h = not_digits radix word (not_true _ (λ e. h (IsUtf8-from_ascii word (ascii_from radix word few (all_from radix word e)))))

below : (radix : ℕ) (word : List ℕ) → 10 ≤ radix → radix ≤ 16 → length word ≤ 10 → AllDigits radix word → digits_value radix word < 2 ^ 64
below radix word some few short all =
    let base : radix ^ length word ≤ 16 ^ length word = pow-le-pow_left few (length word) in
    let high : 16 ^ length word ≤ 16 ^ 10 = pow-le-pow_right (omega arith) short in
    omega (arith, digits_value-lt radix word all, base, high)

pub more_digits : (ds : List ℕ) → AllDigits 10 ds → AllDigits 16 ds
more_digits [] d = d
more_digits (c ∷ cs) d = (omega (arith, d.0), more_digits cs d.1)

pub at_ok : (radix : ℕ) (word : List ℕ) (n : ℕ) → length word ≤ 10 → 0 < length word → AllDigits radix word → n ≡ digits_value radix word → Some n ≡ numeral_in radix word
unfolding numeral_in
at_ok radix word n few some all same =
    let le : leb (length word) 10 ≡ true = grind (arith, nat_tests) in
    let lt : ltb 0 (length word) ≡ true = grind (arith, nat_tests) in
    rw (lt, le, all_to radix word all, same) refl

no_plus : (word : List ℕ) → get_or word 0 0 ≢ 43 → without_leading_plus word ≡ word
no_plus [] h = refl
no_plus (c ∷ cs) h = let e : (c == 43) ≡ false = grind (arith, nat_tests) in rw e refl

from_plain : {E : Type 0} (radix : ℕ) (word : List ℕ) (r : Result ℕ E) → 10 ≤ radix → radix ≤ 16 → length word ≤ 10 → 0 < length word
    → OkIff r (IsNumeral radix word × (digits_value radix word < 2 ^ 64)) (digits_value radix word) → result_ok r ≡ numeral_in radix word
from_plain radix word (Ok n) some few short long p = at_ok radix word n short long p.0.0.1 p.1
from_plain radix word (Err e) some few short long p =
    not_digits radix word (not_true _ (λ all. let d = all_from radix word all in p ((long, d), below radix word some few short d)))

pub parsed : {E : Type 0} (radix : ℕ) (word : List ℕ) (r : Result ℕ E) → 10 ≤ radix → radix ≤ 16 → length word ≤ 10 → 0 < length word
    → get_or word 0 0 ≢ 43 → ParsesUnsigned 64 radix word r → result_ok r ≡ numeral_in radix word
parsed {E = E} radix word r some few short long plain p =
    from_plain radix word r some few short long
    (subst (λ (w : List ℕ). OkIff r (IsNumeral radix w × (digits_value radix w < 2 ^ 64)) (digits_value radix w)) (no_plus word plain) p)
