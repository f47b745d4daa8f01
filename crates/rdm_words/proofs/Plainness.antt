-- What is written is plain, and an escaped text is read back.
use Rattle.std.proofs.Common.{◌≡◌, ◌≢◌, ℕ, ◌/◌, ◌%◌, ◌<◌, ◌==◌, Bool, true, false, cond, ◌||◌, List, [], ◌∷◌, ◌++◌, length, Option, Some, None, codes, refl, sym, subst, arith}
use Rattle.std.specs.Str.{IsAscii, IsUtf8}
use Rattle.std.proofs.lemmas.Str.{IsAscii-append, IsUtf8-from_ascii}
use Rattle.std.proofs.lemmas.Str.Ascii.{IsAscii-nil, IsAscii-cons}
use Rattle.std.proofs.lemmas.Bool.Decides.{nat_tests}
use Rattle.rdm_frame.specs.Digits.{digit, digits}
use Rattle.rdm_words.specs.Plain.{is_printable, is_plain, IsPlain, by_digits, shown_byte, shown, escaped_byte, escaped}
use Rattle.rdm_trace.specs.Reading.{line_in, wire_in}
use Rattle.rdm_trace.specs.Traces.{is_remark}
use Rattle.rdm_words.specs.declared.before.Before.{Before}
use Rattle.rdm_words.specs.Before.{after}
use Rattle.rdm_words.specs.Said.{IsTold, SaysBy, SayInTurn, AreToldInTurn, behind, other_words}
use Rattle.rdm_trace.specs.declared.line.Line.{Line}

-- ---- plain texts

pub plain_append : (xs ys : List ℕ) → IsPlain xs → IsPlain ys → IsPlain (xs ++ ys)
plain_append [] ys p q = q
plain_append (x ∷ xs) ys p q = (p.0, plain_append xs ys p.1 q)

pub plain_line : (words : List ℕ) → IsPlain words → IsPlain (words ++ 10 ∷ [])
plain_line words p = plain_append words (10 ∷ []) p (refl, tt)

pub digit_plain : (n : ℕ) → n < 16 → is_plain (digit n) ≡ true
digit_plain n h = grind (arith, nat_tests)

pub digit_small : (n : ℕ) → n < 16 → digit n < 128
digit_small n h = grind (arith, nat_tests)

pub ascii_is_text : (bytes : List ℕ) → IsAscii bytes → IsUtf8 bytes
ascii_is_text bytes h = IsUtf8-from_ascii bytes h

-- ---- escaped texts are ASCII

ascii_byte : (b : ℕ) → IsAscii (escaped_byte b)
unfolding escaped_byte
ascii_byte b = by ((b == 0x22) || (b == 0x5C)) (is_printable b) refl refl
  where
    marked : (b : ℕ) → ((b == 0x22) || (b == 0x5C)) ≡ true → b < 128
    marked b h = grind (arith, nat_tests)

    printed : (b : ℕ) → is_printable b ≡ true → b < 128
    printed b h = grind (arith, nat_tests)

    by : (x y : Bool) → ((b == 0x22) || (b == 0x5C)) ≡ x → is_printable b ≡ y → IsAscii (cond x (0x5C ∷ b ∷ []) (cond y (b ∷ []) (by_digits b)))
    by true y e f = IsAscii-cons 0x5C (b ∷ []) (omega arith) (IsAscii-cons b [] (marked b e) IsAscii-nil)
    by false true e f = IsAscii-cons b [] (printed b f) IsAscii-nil
    by false false e f =
        IsAscii-cons 0x5C (0x78 ∷ digits (b % 256 ∷ [])) (omega arith) (IsAscii-cons 0x78 (digits (b % 256 ∷ [])) (omega arith)
        (IsAscii-cons (digit (b % 256 / 16)) (digit (b % 256 % 16) ∷ []) (digit_small (b % 256 / 16) (omega arith))
        (IsAscii-cons (digit (b % 256 % 16)) [] (digit_small (b % 256 % 16) (omega arith)) IsAscii-nil)))

pub ascii_escaped : (text : List ℕ) → IsAscii (escaped text)
ascii_escaped [] = IsAscii-nil
ascii_escaped (b ∷ text) = IsAscii-append (escaped_byte b) (escaped text) (ascii_byte b) (ascii_escaped text)

plain_digits : (b : ℕ) → IsPlain (by_digits b)
plain_digits b = (refl, (refl, (digit_plain (b % 256 / 16) (omega arith), (digit_plain (b % 256 % 16) (omega arith), tt))))

plain_byte : (b : ℕ) → IsPlain (shown_byte b)
unfolding shown_byte
plain_byte b = by (is_plain b) refl
  where
    by : (x : Bool) → is_plain b ≡ x → IsPlain (cond x (b ∷ []) (by_digits b))
    by true e = (e, tt)
    by false e = plain_digits b

pub plain_shown : (words : List ℕ) → IsPlain (shown words)
plain_shown [] = tt
plain_shown (b ∷ words) = plain_append (shown_byte b) (shown words) (plain_byte b) (plain_shown words)

printable_plain : (b : ℕ) → is_printable b ≡ true → is_plain b ≡ true
printable_plain b h = rw h refl

plain_escaped_byte : (b : ℕ) → IsPlain (escaped_byte b)
unfolding escaped_byte
plain_escaped_byte b = by ((b == 0x22) || (b == 0x5C)) (is_printable b) refl refl
  where
    marked : (b : ℕ) → ((b == 0x22) || (b == 0x5C)) ≡ true → is_plain b ≡ true
    marked b h = grind (arith, nat_tests)

    by : (x y : Bool) → ((b == 0x22) || (b == 0x5C)) ≡ x → is_printable b ≡ y → IsPlain (cond x (0x5C ∷ b ∷ []) (cond y (b ∷ []) (by_digits b)))
    by true y e f = (refl, (marked b e, tt))
    by false true e f = (printable_plain b f, tt)
    by false false e f = plain_digits b

pub plain_escaped : (text : List ℕ) → IsPlain (escaped text)
plain_escaped [] = tt
plain_escaped (b ∷ text) = plain_append (escaped_byte b) (escaped text) (plain_escaped_byte b) (plain_escaped text)

shown_some : (words : List ℕ) → words ≢ [] → shown words ≢ []
unfolding shown_byte
shown_some [] h e = absurd (h refl)
shown_some (b ∷ words) h e = by (is_plain b) e
  where
    by : (x : Bool) → cond x (b ∷ []) (by_digits b) ++ shown words ≢ []
    by true e = absurd cc
    by false e = absurd cc

-- words and the end of their line
pub told_line : (words : List ℕ) → words ≢ [] → IsTold (shown words ++ 10 ∷ [])
told_line words h = record { words = shown words; whole = refl; some = shown_some words h; plain = plain_line (shown words) (plain_shown words) }

-- a line that says nothing of a bus
plain_other : (remark : Bool) (line : List ℕ) → IsPlain (other_words remark line)
plain_other true line = plain_line (escaped line) (plain_escaped line)
plain_other false line = plain_append (codes "not read: ") (escaped line ++ 10 ∷ []) front (plain_line (escaped line) (plain_escaped line))
  where
    front : IsPlain (codes "not read: ")
    front = (refl, (refl, (refl, (refl, (refl, (refl, (refl, (refl, (refl, (refl, tt))))))))))

-- what is said of a line, by what it is
plain_says : (before : Before) (empty : Bool) (said : Option Line) (frame : Option (List ℕ)) (line own : List ℕ) → SaysBy before empty said frame line own → IsPlain own
plain_says before true said frame line own s = subst (λ (o : List ℕ). IsPlain o) (sym s) (refl, tt)
plain_says before false (Some said) frame line own s = s.told.plain
plain_says before false None (Some bytes) line own s = s.told.plain
plain_says before false None None line own s = subst (λ (o : List ℕ). IsPlain o) (sym s) (plain_other (is_remark line) line)

pub said_plain : (before : Before) (lines : List (List ℕ)) (said : List ℕ) → SayInTurn before lines said → IsPlain said
said_plain before [] said s = subst (λ (o : List ℕ). IsPlain o) (sym s) tt
said_plain before (line ∷ lines) said (own, rest, parts, one, more) =
    subst (λ (o : List ℕ). IsPlain o) (sym parts)
    (plain_append own rest (plain_says before (length line == 0) (line_in line) (wire_in line) line own one) (said_plain (behind (line_in line) before) lines rest more))

pub told_plain : (before : Before) (lines : List Line) (said : List ℕ) → AreToldInTurn before lines said → IsPlain said
told_plain before [] said s = subst (λ (o : List ℕ). IsPlain o) (sym s) tt
told_plain before (line ∷ lines) said (own, rest, parts, one, more) =
    subst (λ (o : List ℕ). IsPlain o) (sym parts) (plain_append own rest one.told.plain (told_plain (after line before) lines rest more))
