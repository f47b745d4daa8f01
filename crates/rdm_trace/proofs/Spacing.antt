-- Reading the bytes of a frame, one after the other.
use Rattle.std.proofs.Common.{◌≡◌, ◌≢◌, ℕ, ◌+◌, ◌-◌, ◌<◌, ◌≤◌, ◌==◌, Bool, true, false, ◌||◌, eqb, List, [], ◌∷◌, ◌++◌, length, get_or, take, drop, Option, Some, None, refl, sym, ap, ◌∙◌, append_assoc, arith}
use Rattle.std.specs.Prelude.{option_map}
use Rattle.std.proofs.lemmas.List.{take_all, length-append}
use Rattle.std.proofs.lemmas.Bool.{ne_eqb}
use Rattle.rdm_frame.specs.DigitReading.{◌>>=◌, byte_in}
use Rattle.rdm_trace.specs.Reading.{spaced_bytes, code_in}

-- what was read before, and what is still read
abbrev pub with_front : List ℕ → Option (List ℕ) → Option (List ℕ)
with_front front read = option_map (λ bytes. front ++ bytes) read

pub space_is_blank : (b : ℕ) → b ≡ 32 → ((b == 32) || (b == 9)) ≡ true
space_is_blank b h = rw h refl

pub tab_is_blank : (b : ℕ) → b ≡ 9 → ((b == 32) || (b == 9)) ≡ true
tab_is_blank b h = rw h refl

no_blank : (b : ℕ) → b ≢ 32 → b ≢ 9 → ((b == 32) || (b == 9)) ≡ false
no_blank b h k = rw (ne_eqb b 32 h, ne_eqb b 9 k) refl

-- a blank is left out
pub behind_blank : (room : ℕ) (rest : List ℕ) → 1 ≤ length rest → ((get_or rest 0 0 == 32) || (get_or rest 0 0 == 9)) ≡ true
    → spaced_bytes room (take (length rest - 1) (drop 1 rest)) ≡ spaced_bytes room rest
behind_blank room [] some h = absurd (omega arith)
behind_blank room (b ∷ []) some h = rw h refl
behind_blank room (b ∷ low ∷ more) some h = rw (h, take_all (length (b ∷ low ∷ more) - 1) (low ∷ more) (omega arith)) refl

put_in_front : (front : List ℕ) (byte : ℕ) (read : Option (List ℕ)) → with_front (front ++ byte ∷ []) read ≡ with_front front (read >>= λ bytes. Some (byte ∷ bytes))
put_in_front front byte None = refl
put_in_front front byte (Some bytes) = ap (λ (xs : List ℕ). Some xs) (append_assoc front (byte ∷ []) bytes)

code_is : (high low byte : ℕ) → code_in (high ∷ low ∷ []) ≡ Some byte → byte_in high low ≡ Some byte
unfolding code_in
code_is high low byte h = h

-- two digits are read
pub behind_byte : (front rest : List ℕ) (byte : ℕ) → 2 ≤ length rest → get_or rest 0 0 ≢ 32 → get_or rest 0 0 ≢ 9 → length front ≤ 257 → length front ≢ 257
    → code_in (get_or rest 0 0 ∷ get_or rest 1 0 ∷ []) ≡ Some byte
    → with_front (front ++ byte ∷ []) (spaced_bytes (257 - length (front ++ byte ∷ [])) (take (length rest - 2) (drop 2 rest))) ≡ with_front front (spaced_bytes (257 - length front) rest)
behind_byte front [] byte two h k le ne e = absurd (omega arith)
behind_byte front (one ∷ []) byte two h k le ne e = absurd (omega arith)
behind_byte front (high ∷ low ∷ more) byte two h k le ne e =
    let some : eqb (257 - length front) 0 ≡ false = ne_eqb _ 0 (omega (arith, ne)) in
    let left : 257 - length (front ++ byte ∷ []) ≡ 257 - length front - 1 = omega (arith, length-append front (byte ∷ [])) in
    let whole : take (length (high ∷ low ∷ more) - 2) more ≡ more = take_all _ more (omega arith) in
    rw (left, whole, no_blank high h k, some, code_is high low byte e) (put_in_front front byte (spaced_bytes (257 - length front - 1) more))
