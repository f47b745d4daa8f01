-- What is written is ASCII, and so it is text.
use Rattle.std.proofs.Common.{◌≡◌, ℕ, ◌/◌, ◌%◌, ◌<◌, ◌==◌, Bool, true, false, cond, List, [], ◌∷◌, ◌++◌, refl, arith}
use Rattle.std.specs.Str.{IsAscii, IsUtf8}
use Rattle.std.proofs.lemmas.Str.{IsAscii-append, IsUtf8-from_ascii}
use Rattle.std.proofs.lemmas.Str.Ascii.{IsAscii-nil, IsAscii-cons}
use Rattle.std.proofs.lemmas.Bool.Decides.{nat_tests}
use Rattle.std.specs.Int.{w16, w32, to_be_bytes}
use Rattle.std.specs.Prelude.{decimal, ◌^◌}
use Rattle.std.proofs.lemmas.Fmt.{IsAscii-decimal}
use Rattle.rdm_frame.specs.Digits.{digit, digits, within}
use Rattle.rdm_frame.specs.declared.uid.Uid.{Uid}
use Rattle.rdm_survey.specs.Members.{id_word, long_id_word, place_word, sub_word, uid_word}
use Rattle.rdm_survey.specs.Shown.{by_digits, shown, shown_byte}

pub ascii_is_text : (bytes : List ℕ) → IsAscii bytes → IsUtf8 bytes
ascii_is_text bytes h = IsUtf8-from_ascii bytes h

digit_small : (n : ℕ) → n < 16 → digit n < 128
digit_small n h = grind (arith, nat_tests)

-- the two digits of a byte
abbrev pair : ℕ → List ℕ → List ℕ
pair b rest = digit (b / 16) ∷ digit (b % 16) ∷ rest

byte_ascii : (b : ℕ) (rest : List ℕ) → b < 256 → IsAscii rest → IsAscii (pair b rest)
byte_ascii b rest h r =
    IsAscii-cons (digit (b / 16)) (digit (b % 16) ∷ rest) (digit_small (b / 16) (omega arith))
    (IsAscii-cons (digit (b % 16)) rest (digit_small (b % 16) (omega arith)) r)

short_ascii : (n : ℕ) (rest : List ℕ) → IsAscii rest → IsAscii (digits (to_be_bytes w16 n) ++ rest)
short_ascii n rest r = byte_ascii (n / 256 % 256) (pair (n % 256) rest) (omega arith) (byte_ascii (n % 256) rest (omega arith) r)

long_ascii : (n : ℕ) → IsAscii (digits (to_be_bytes w32 n))
long_ascii n =
    byte_ascii (n / 16777216 % 256) (pair (n / 65536 % 256) (pair (n / 256 % 256) (pair (n % 256) []))) (omega arith)
    (byte_ascii (n / 65536 % 256) (pair (n / 256 % 256) (pair (n % 256) [])) (omega arith)
    (byte_ascii (n / 256 % 256) (pair (n % 256) []) (omega arith)
    (byte_ascii (n % 256) [] (omega arith) IsAscii-nil)))

marked : (words : List ℕ) → IsAscii words → IsAscii (0x30 ∷ 0x78 ∷ words)
marked words h = IsAscii-cons 0x30 (0x78 ∷ words) (omega arith) (IsAscii-cons 0x78 words (omega arith) h)

pub id_ascii : (n : ℕ) → IsAscii (id_word n)
unfolding id_word
id_ascii n = marked (digits (to_be_bytes w16 n)) (short_ascii n [] IsAscii-nil)

pub long_id_ascii : (n : ℕ) → IsAscii (long_id_word n)
unfolding long_id_word
long_id_ascii n = marked (digits (to_be_bytes w32 n)) (long_ascii n)

pub uid_ascii : (uid : Uid) → IsAscii (uid_word uid)
unfolding uid_word
uid_ascii uid =
    short_ascii uid.maker (0x3A ∷ digits (to_be_bytes w32 uid.device)) (IsAscii-cons 0x3A (digits (to_be_bytes w32 uid.device)) (omega arith) (long_ascii uid.device))

byte_shown : (b : ℕ) → IsAscii (shown_byte b)
unfolding shown_byte
byte_shown b = by (b == 0x5C) (within 0x20 b 0x7E) refl refl
  where
    is_slash : (b : ℕ) → (b == 0x5C) ≡ true → b < 128
    is_slash b h = grind (arith, nat_tests)

    printed : (b : ℕ) → within 0x20 b 0x7E ≡ true → b < 128
    printed b h = grind (arith, nat_tests)

    by : (x y : Bool) → (b == 0x5C) ≡ x → within 0x20 b 0x7E ≡ y → IsAscii (cond x (0x5C ∷ 0x5C ∷ []) (cond y (b ∷ []) (by_digits b)))
    by true y e f = IsAscii-cons 0x5C (0x5C ∷ []) (omega arith) (IsAscii-cons 0x5C [] (omega arith) IsAscii-nil)
    by false true e f = IsAscii-cons b [] (printed b f) IsAscii-nil
    by false false e f =
        IsAscii-cons 0x5C (0x78 ∷ digits (b % 256 ∷ [])) (omega arith) (IsAscii-cons 0x78 (digits (b % 256 ∷ [])) (omega arith)
        (byte_ascii (b % 256) [] (omega arith) IsAscii-nil))

pub shown_ascii : (text : List ℕ) → IsAscii (shown text)
shown_ascii [] = IsAscii-nil
shown_ascii (b ∷ text) = IsAscii-append (shown_byte b) (shown text) (byte_shown b) (shown_ascii text)

sub_ascii : (sub : ℕ) → sub < 2 ^ 64 → IsAscii (sub_word sub)
sub_ascii sub h = by (sub == 0)
  where
    by : (x : Bool) → IsAscii (cond x [] (0x2F ∷ decimal sub))
    by true = IsAscii-nil
    by false = IsAscii-cons 0x2F (decimal sub) (omega arith) (IsAscii-decimal sub h)

pub place_ascii : (uid : Uid) (sub : ℕ) → sub < 2 ^ 64 → IsAscii (place_word uid sub)
place_ascii uid sub h = IsAscii-append (uid_word uid) (sub_word sub) (uid_ascii uid) (sub_ascii sub h)
