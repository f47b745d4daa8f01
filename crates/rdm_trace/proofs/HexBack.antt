-- Bytes and numbers that are written in hexadecimal digits are read back.
use Rattle.std.proofs.Common.{◌≡◌, ℕ, suc, ◌+◌, ◌-◌, ◌*◌, ◌/◌, ◌%◌, ◌^◌, ◌<◌, ◌≤◌, ◌==◌, Bool, true, false, not, ◌&&◌, ◌||◌, eqb, leb, List, [], ◌∷◌, ◌++◌, length, Some, None, refl, sym, ap, ◌∙◌, arith}
use Rattle.std.specs.List.{AllByRecursion}
use Rattle.std.specs.Int.{w16, to_be_bytes, from_be_bytes}
use Rattle.std.specs.Str.{bytes_eq}
use Rattle.std.specs.Prelude.{codes}
use Rattle.std.proofs.lemmas.Bool.{le-leb, ne_eqb}
use Rattle.std.proofs.lemmas.Bool.Decides.{nat_tests}
use Rattle.std.proofs.lemmas.List.Concat.{flat_map-cons}
use Rattle.std.proofs.lemmas.Nat.{from_be_bytes-to_be_bytes_2}
use Rattle.rdm_frame.specs.Digits.{digit, digits}
use Rattle.rdm_frame.specs.DigitReading.{◌>>=◌, digit_value, byte_in, bytes_in, number_in}
use Rattle.rdm_trace.specs.LineText.{IsBytes, IsWire, word_digits, data_words}
use Rattle.rdm_trace.specs.Reading.{up_to, spaced_bytes, wire_in, code_in, body_in}
use Rattle.rdm_trace.proofs.Cuts.{no_space}

abbrev IsByte : ℕ → Type 0
IsByte byte = byte < 256

digits-cons : (byte : ℕ) (bytes : List ℕ) → digits (byte ∷ bytes) ≡ digit (byte / 16) ∷ digit (byte % 16) ∷ digits bytes
digits-cons byte bytes = flat_map-cons (λ (b : ℕ). digit (b / 16) ∷ digit (b % 16) ∷ []) byte bytes

length-digits : (bytes : List ℕ) → length (digits bytes) ≡ 2 * length bytes
length-digits [] = refl
length-digits (b ∷ bs) = ap length (digits-cons b bs) ∙ (let rest : length (digits bs) ≡ 2 * length bs = length-digits bs in omega (arith, rest))

-- ---- a digit is no blank and no hyphen

digit_no_space : (n : ℕ) → not (digit n == 32) ≡ true
digit_no_space n = grind (arith, nat_tests)

digit_no_blank : (n : ℕ) → ((digit n == 32) || (digit n == 9)) ≡ false
digit_no_blank n = grind (arith, nat_tests)

digit_no_hyphen : (n : ℕ) → (digit n == 45) ≡ false
digit_no_hyphen n = grind (arith, nat_tests)

pub digits_no_space : (bytes : List ℕ) → no_space (digits bytes) ≡ true
digits_no_space [] = refl
digits_no_space (b ∷ bs) = ap no_space (digits-cons b bs) ∙ rw (digit_no_space (b / 16), digit_no_space (b % 16), digits_no_space bs) refl

-- ---- bytes

digit_back : (n : ℕ) → n < 16 → digit_value (digit n) ≡ Some n
digit_back n h = grind (arith, nat_tests)

byte_back : (b : ℕ) → b < 256 → byte_in (digit (b / 16)) (digit (b % 16)) ≡ Some b
unfolding byte_in
byte_back b h =
    let whole : 16 * (b / 16) + b % 16 ≡ b = omega arith in
    rw (digit_back (b / 16) (omega arith), digit_back (b % 16) (omega arith)) (ap (λ (n : ℕ). Some n) whole)

bytes_back : (bytes : List ℕ) → AllByRecursion IsByte bytes → bytes_in (digits bytes) ≡ Some bytes
bytes_back [] fits = refl
bytes_back (b ∷ bs) fits = ap bytes_in (digits-cons b bs) ∙ rw (byte_back b fits.0, bytes_back bs fits.1) refl

spaced_back : (room : ℕ) (bytes : List ℕ) → length bytes ≤ room → AllByRecursion IsByte bytes → spaced_bytes room (digits bytes) ≡ Some bytes
spaced_back room [] le fits = refl
spaced_back room (b ∷ bs) le fits =
    let some : eqb room 0 ≡ false = ne_eqb room 0 (omega arith) in
    ap (spaced_bytes room) (digits-cons b bs) ∙ rw (digit_no_blank (b / 16), some, byte_back b fits.0, spaced_back (room - 1) bs (omega arith) fits.1) refl

pub wire_back : (bytes : List ℕ) → IsWire bytes → wire_in (digits bytes) ≡ Some bytes
unfolding wire_in
wire_back bytes h =
    let some : eqb (length bytes) 0 ≡ false = ne_eqb (length bytes) 0 (omega (arith, h.some)) in
    rw (spaced_back 257 bytes h.within.room h.within.fits, some) refl

pub code_back : (b : ℕ) → b < 256 → code_in (digits (b ∷ [])) ≡ Some b
unfolding code_in
code_back b h = ap code_in (digits-cons b []) ∙ byte_back b h

word_read : (text : List ℕ) (n : ℕ) → length text ≡ 4 → bytes_in text ≡ Some (to_be_bytes w16 n) → n < 2 ^ 16 → number_in w16 text ≡ Some n
unfolding number_in
word_read text n four e small = rw (four, e) (ap (λ (k : ℕ). Some k) (from_be_bytes-to_be_bytes_2 n (omega arith)))

pub word_back : (n : ℕ) → n < 2 ^ 16 → number_in w16 (word_digits n) ≡ Some n
word_back n h =
    let four : length (digits (to_be_bytes w16 n)) ≡ 4 = length-digits (to_be_bytes w16 n) in
    let fits : AllByRecursion IsByte (to_be_bytes w16 n) = (omega arith, (omega arith, tt)) in
    word_read (word_digits n) n four (bytes_back (to_be_bytes w16 n) fits) h

-- ---- data

pub data_no_space : (bytes : List ℕ) → no_space (data_words bytes) ≡ true
data_no_space [] = refl
data_no_space (b ∷ bs) = digits_no_space (b ∷ bs)

no_hyphen : (b : ℕ) (bs : List ℕ) → bytes_eq (digits (b ∷ bs)) (codes "-") ≡ false
no_hyphen b bs = ap (λ (text : List ℕ). bytes_eq text (codes "-")) (digits-cons b bs) ∙ rw (digit_no_hyphen (b / 16)) refl

pub body_back : (bytes : List ℕ) → IsBytes 231 bytes → body_in (data_words bytes) ≡ Some bytes
unfolding body_in
body_back [] h = refl
body_back (b ∷ bs) h =
    let short : leb (length (digits (b ∷ bs))) 462 ≡ true = le-leb _ 462 (omega (arith, length-digits (b ∷ bs), h.room)) in
    rw (no_hyphen b bs, short, bytes_back (b ∷ bs) h.fits, le-leb (length (b ∷ bs)) 231 h.room) refl

-- ---- digits aren't the word of a reply that isn't there

digit_no_n : (n : ℕ) → n < 16 → (digit n == 110) ≡ false
digit_no_n n h = grind (arith, nat_tests)

pub digits_not_none : (bytes : List ℕ) → AllByRecursion IsByte bytes → bytes_eq (digits bytes) (codes "none") ≡ false
digits_not_none [] fits = refl
digits_not_none (b ∷ bs) fits = ap (λ (text : List ℕ). bytes_eq text (codes "none")) (digits-cons b bs) ∙ rw (digit_no_n (b / 16) (omega (arith, fits.0))) refl
