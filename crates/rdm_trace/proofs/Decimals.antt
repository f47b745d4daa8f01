-- Decimal numbers are read as `parse` reads them, and those that are written are read back.
use Rattle.std.proofs.Common.{◌≡◌, ◌≢◌, ℕ, zero, suc, ◌+◌, ◌<◌, ◌≤◌, ◌^◌, ◌==◌, Bool, true, false, not, ◌&&◌, cond, eqb, leb, ltb, List, [], ◌∷◌, length, get_or, drop, Some, None, refl, sym, ap, subst, ◌∙◌, arith}
use Rattle.std.specs.Prelude.{Result, Ok, Err, Option, decimal, ℤ, pos, negsuc, neg_ℤ}
use Rattle.std.specs.Fmt.{signed_decimal}
use Rattle.std.specs.Int.{w16}
use Rattle.std.specs.Int.RustNames.{FitsSigned}
use Rattle.std.specs.Result.{result_ok, OkIff}
use Rattle.std.specs.Str.{all_ascii_digits, IsUtf8, IsAscii}
use Rattle.std.specs.Str.Parse.{AllDigits, IsNumeral, digits_value, without_leading_plus, without_leading_sign, starts_with_minus, signed_digits_value, ParsesUnsigned, ParsesSigned}
use Rattle.std.proofs.lemmas.Str.{IsUtf8-from_ascii}
use Rattle.std.proofs.lemmas.Fmt.{IsAscii-from_digits, decimal_is_IsNumeral}
use Rattle.std.proofs.lemmas.Str.Parse.{IsNumeralModel, numerals_by_value, tells_all_ascii_digits, digit_from_value, without_leading_plus_none}
use Rattle.std.proofs.lemmas.Bool.{eqb-true, leb-true, ltb-true, le-leb, lt-ltb, ne_eqb}
use Rattle.rdm_trace.specs.Numbers.{is_numeral, unsigned_in, number_up_to, most_of, signed_in}
use Rattle.rdm_trace.proofs.Cuts.{both, no_space}

own : IsNumeralModel (λ ds. all_ascii_digits ds ≡ true) (digits_value 10)
own = numerals_by_value _ tells_all_ascii_digits

numeral_is : (ds : List ℕ) → is_numeral ds ≡ true → IsNumeral 10 ds
numeral_is ds h = let p = both (ltb 0 (length ds)) (all_ascii_digits ds) h in (ltb-true _ _ p.0, own.to ds p.1)

numeral_tells : (ds : List ℕ) → IsNumeral 10 ds → is_numeral ds ≡ true
numeral_tells ds h = rw (lt-ltb 0 (length ds) h.0, own.from ds h.1) refl

-- what is answered by a test of what it says
decided : {T E : Type 0} (r : Result T E) (b : Bool) (P : Type 0) (v : T) → OkIff r P v → (b ≡ true → P) → (P → b ≡ true) → result_ok r ≡ cond b (Some v) None
decided (Ok x) b P v h to from = rw (from h.0, h.1) refl
decided (Err e) true P v h to from = absurd (h (to refl))
decided (Err e) false P v h to from = refl

pub parsed : {E : Type 0} (word : List ℕ) (r : Result ℕ E) → ParsesUnsigned 64 10 word r → result_ok r ≡ unsigned_in word
unfolding unsigned_in
parsed word r h =
    let ds : List ℕ = without_leading_plus word in
    decided r (is_numeral ds && ltb (digits_value 10 ds) (2 ^ 64)) (IsNumeral 10 ds × (digits_value 10 ds < 2 ^ 64)) (digits_value 10 ds) h
    (λ e. let p = both (is_numeral ds) (ltb (digits_value 10 ds) (2 ^ 64)) e in (numeral_is ds p.0, ltb-true _ _ p.1))
    (λ p. rw (numeral_tells ds p.0, lt-ltb (digits_value 10 ds) (2 ^ 64) p.1) refl)

-- the same of a number with a sign
fits_signed : (minus : Bool) (v : ℕ) → v ≤ most_of minus → FitsSigned w16 (cond minus (neg_ℤ (pos v)) (pos v))
fits_signed true zero h = record { sfits = omega arith }
fits_signed true (suc n) h = record { sfits = h }
fits_signed false v h = record { sfits = omega arith }

signed_fits : (minus : Bool) (v : ℕ) → FitsSigned w16 (cond minus (neg_ℤ (pos v)) (pos v)) → v ≤ most_of minus
signed_fits true zero h = omega arith
signed_fits true (suc n) h = h.sfits
signed_fits false v h = omega (arith, h.sfits)

pub parsed_signed : {E : Type 0} (word : List ℕ) (r : Result ℤ E) → ParsesSigned w16 10 word r → result_ok r ≡ signed_in word
unfolding signed_in
parsed_signed word r h =
    let ds : List ℕ = without_leading_sign word in
    let v : ℕ = digits_value 10 ds in
    let minus : Bool = starts_with_minus word in
    decided r (is_numeral ds && leb v (most_of minus)) (IsNumeral 10 ds × FitsSigned w16 (signed_digits_value 10 word)) (signed_digits_value 10 word) h
    (λ e. let p = both (is_numeral ds) (leb v (most_of minus)) e in (numeral_is ds p.0, fits_signed minus v (leb-true _ _ p.1)))
    (λ p. rw (numeral_tells ds p.0, le-leb v (most_of minus) (signed_fits minus v p.1)) refl)

-- ---- what is no text has no number

first_and_digits : (c : ℕ) (cs : List ℕ) → c < 128 → AllDigits 10 cs → IsAscii (c ∷ cs)
first_and_digits c cs small d zero = small
first_and_digits c cs small d (suc i) = IsAscii-from_digits cs d i

by_plus : (plus : Bool) (c : ℕ) (cs : List ℕ) → eqb c 43 ≡ plus → IsNumeral 10 (drop (cond plus 1 0) (c ∷ cs)) → IsAscii (c ∷ cs)
by_plus true c cs e h = first_and_digits c cs (omega (arith, eqb-true c 43 e)) h.1
by_plus false c cs e h = IsAscii-from_digits (c ∷ cs) h.1

unsigned_text : (word : List ℕ) → IsNumeral 10 (without_leading_plus word) → IsAscii word
unsigned_text [] h = absurd (omega (arith, h.0))
unsigned_text (c ∷ cs) h = by_plus (eqb c 43) c cs refl h

by_minus : (minus : Bool) (c : ℕ) (cs : List ℕ) → eqb c 45 ≡ minus → IsNumeral 10 (cond minus cs (without_leading_plus (c ∷ cs))) → IsAscii (c ∷ cs)
by_minus true c cs e h = first_and_digits c cs (omega (arith, eqb-true c 45 e)) h.1
by_minus false c cs e h = unsigned_text (c ∷ cs) h

signed_text : (word : List ℕ) → IsNumeral 10 (without_leading_sign word) → IsAscii word
signed_text [] h = absurd (omega (arith, h.0))
signed_text (c ∷ cs) h = by_minus (eqb c 45) c cs refl h

left_out : {T : Type 0} (x y : Bool) (v : T) → (x ≡ true → ⊥) → None ≡ cond (x && y) (Some v) None
left_out true y v h = absurd (h refl)
left_out false y v h = refl

pub no_text : (word : List ℕ) → (IsUtf8 word → ⊥) → None ≡ unsigned_in word
unfolding unsigned_in
no_text word h = left_out (is_numeral (without_leading_plus word)) _ _ (λ e. h (IsUtf8-from_ascii word (unsigned_text word (numeral_is _ e))))

pub no_signed_text : (word : List ℕ) → (IsUtf8 word → ⊥) → None ≡ signed_in word
unfolding signed_in
no_signed_text word h = left_out (is_numeral (without_leading_sign word)) _ _ (λ e. h (IsUtf8-from_ascii word (signed_text word (numeral_is _ e))))

-- ---- what is written is read back

first_not : (ds : List ℕ) → IsNumeral 10 ds → (c : ℕ) → c < 48 → get_or ds 0 0 ≢ c
first_not [] h c small e = omega (arith, h.0)
first_not (d ∷ ds) h c small e = omega (arith, digit_from_value d h.1.0)

digits_no_space : (ds : List ℕ) → AllDigits 10 ds → no_space ds ≡ true
digits_no_space [] d = refl
digits_no_space (c ∷ cs) d = rw (ne_eqb c 32 (omega (arith, digit_from_value c d.0)), digits_no_space cs d.1) refl

pub decimal_no_space : (n : ℕ) → n < 2 ^ 64 → no_space (decimal n) ≡ true
decimal_no_space n h = digits_no_space (decimal n) (decimal_is_IsNumeral n h).0.1

plain : (n : ℕ) → n < 2 ^ 64 → without_leading_plus (decimal n) ≡ decimal n
plain n h = without_leading_plus_none (decimal n) (first_not (decimal n) (decimal_is_IsNumeral n h).0 43 (omega arith))

unsigned_back : (n : ℕ) → n < 2 ^ 64 → unsigned_in (decimal n) ≡ Some n
unfolding unsigned_in
unsigned_back n h =
    let k = decimal_is_IsNumeral n h in
    rw (plain n h, numeral_tells (decimal n) k.0, k.1, lt-ltb n (2 ^ 64) h) refl

pub number_back : (most n : ℕ) → n ≤ most → n < 2 ^ 64 → number_up_to most (decimal n) ≡ Some n
unfolding number_up_to
number_back most n le small = rw (unsigned_back n small, le-leb n most le) refl

pub signed_back : (z : ℤ) → FitsSigned w16 z → signed_in (signed_decimal z) ≡ Some z
unfolding signed_in
signed_back (pos n) h =
    let small : n < 2 ^ 64 = omega (arith, h.sfits) in
    let k = decimal_is_IsNumeral n small in
    let none : eqb (get_or (decimal n) 0 0) 45 ≡ false = ne_eqb _ 45 (first_not (decimal n) k.0 45 (omega arith)) in
    rw (none, plain n small, numeral_tells (decimal n) k.0, k.1, le-leb n 32767 (omega (arith, h.sfits))) refl
signed_back (negsuc n) h =
    let small : suc n < 2 ^ 64 = omega (arith, h.sfits) in
    let k = decimal_is_IsNumeral (suc n) small in
    rw (numeral_tells (decimal (suc n)) k.0, k.1, le-leb (suc n) 32768 (omega (arith, h.sfits))) refl
