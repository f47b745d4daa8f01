-- The bytes that are written in digits are read back.
use Rattle.std.proofs.Common.{◌≡◌, ◌↔◌, ℕ, ◌+◌, ◌*◌, ◌/◌, ◌%◌, ◌<◌, List, [], ◌∷◌, map, Some, refl, ap, subst, ◌∙◌, arith}
use Rattle.std.specs.List.{AllByRecursion}
use Rattle.std.proofs.lemmas.Bool.Decides.{nat_tests}
use Rattle.std.proofs.lemmas.Option.{option_and_then_some, same_Some}
use Rattle.std.proofs.lemmas.List.Concat.{flat_map-cons}
use Rattle.rdm_frame.specs.Digits.{digit, digits, upper, SpellsBytes}
use Rattle.rdm_frame.specs.DigitReading.{◌>>=◌, digit_value, byte_in, bytes_in}

digit_read : (b v : ℕ) → digit_value b ≡ Some v → (v < 16) × (upper b ≡ digit v)
digit_read b v h = (grind (arith, nat_tests), grind (arith, nat_tests))

digit_again : (b v : ℕ) → v < 16 → upper b ≡ digit v → digit_value b ≡ Some v
digit_again b v small h = grind (arith, nat_tests)

byte_read : (high low byte : ℕ) → byte_in high low ≡ Some byte → (byte < 256) × (upper high ≡ digit (byte / 16)) × (upper low ≡ digit (byte % 16))
unfolding byte_in
byte_read high low byte e =
    option_and_then_some (λ h. digit_value low >>= λ l. Some (16 * h + l)) (digit_value high) byte e (λ h is_h rest.
    option_and_then_some (λ l. Some (16 * h + l)) (digit_value low) byte rest (λ l is_l made.
    let whole : 16 * h + l ≡ byte = same_Some (16 * h + l) byte made in
    let first = digit_read high h is_h in
    let second = digit_read low l is_l in
    let upper_part : byte / 16 ≡ h = omega (arith, first.0, second.0) in
    let lower_part : byte % 16 ≡ l = omega (arith, first.0, second.0) in
    (omega (arith, first.0, second.0), rw upper_part first.1, rw lower_part second.1)))

byte_again : (high low byte : ℕ) → byte < 256 → upper high ≡ digit (byte / 16) → upper low ≡ digit (byte % 16) → byte_in high low ≡ Some byte
unfolding byte_in
byte_again high low byte fits h l =
    let whole : 16 * (byte / 16) + byte % 16 ≡ byte = omega arith in
    rw (digit_again high (byte / 16) (omega arith) h, digit_again low (byte % 16) (omega arith) l) (ap (λ (n : ℕ). Some n) whole)

abbrev IsByte : ℕ → Type 0
IsByte byte = byte < 256

abbrev pair : ℕ → List ℕ
pair byte = digit (byte / 16) ∷ digit (byte % 16) ∷ []

digits-cons : (byte : ℕ) (bytes : List ℕ) → digits (byte ∷ bytes) ≡ digit (byte / 16) ∷ digit (byte % 16) ∷ digits bytes
digits-cons byte bytes = flat_map-cons pair byte bytes

pub bytes_read : (word bytes : List ℕ) → bytes_in word ≡ Some bytes → SpellsBytes word bytes
bytes_read [] bytes e = subst (λ (bs : List ℕ). SpellsBytes [] bs) (same_Some [] bytes e) (record { printed = refl; fits = tt })
bytes_read (one ∷ []) bytes e = absurd cc
bytes_read (high ∷ low ∷ more) bytes e =
    option_and_then_some (λ byte. bytes_in more >>= λ rest. Some (byte ∷ rest)) (byte_in high low) bytes e (λ byte is_byte others.
    option_and_then_some (λ rest. Some (byte ∷ rest)) (bytes_in more) bytes others (λ rest is_rest made.
    let first = byte_read high low byte is_byte in
    let behind = bytes_read more rest is_rest in
    let printed : map upper (high ∷ low ∷ more) ≡ digits (byte ∷ rest) = rw (digits-cons byte rest, first.1, first.2, behind.printed) refl in
    subst (λ (bs : List ℕ). SpellsBytes (high ∷ low ∷ more) bs) (same_Some (byte ∷ rest) bytes made) (record { printed = printed; fits = (first.0, behind.fits) })))

again : (word bytes : List ℕ) → map upper word ≡ digits bytes → AllByRecursion IsByte bytes → bytes_in word ≡ Some bytes
again [] [] e fits = refl
again [] (byte ∷ bytes) e fits = let f = e ∙ digits-cons byte bytes in absurd cc
again (one ∷ []) [] e fits = absurd cc
again (one ∷ []) (byte ∷ bytes) e fits = let f = e ∙ digits-cons byte bytes in absurd cc
again (high ∷ low ∷ more) [] e fits = absurd cc
again (high ∷ low ∷ more) (byte ∷ bytes) e fits =
    let f : upper high ∷ upper low ∷ map upper more ≡ digit (byte / 16) ∷ digit (byte % 16) ∷ digits bytes = e ∙ digits-cons byte bytes in
    let h : upper high ≡ digit (byte / 16) = cc in
    let l : upper low ≡ digit (byte % 16) = cc in
    let behind : map upper more ≡ digits bytes = cc in
    rw (byte_again high low byte fits.0 h l, again more bytes behind fits.1) refl

pub bytes_again : (word bytes : List ℕ) → SpellsBytes word bytes → bytes_in word ≡ Some bytes
bytes_again word bytes spelled = again word bytes spelled.printed spelled.fits

pub bytes_spelled : (word bytes : List ℕ) → (bytes_in word ≡ Some bytes) ↔ SpellsBytes word bytes
bytes_spelled word bytes = (bytes_read word bytes, bytes_again word bytes)
