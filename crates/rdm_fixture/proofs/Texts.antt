-- The text that is written of a text of the device says it.
use Rattle.std.proofs.Common.{◌≡◌, ℕ, ◌≤◌, zero, suc, nat_le, List, [], ◌∷◌, length, Some, IsTrue, refl, arith}
use Rattle.std.specs.Str.{IsAscii}
use Rattle.std.proofs.lemmas.Bool.{and_parts, leb-true, le-leb}
use Rattle.std.proofs.lemmas.Str.{IsUtf8-from_ascii, utf8_lossy-IsUtf8}
use Rattle.toml.specs.Data.{string}
use Rattle.rdm_fixture.specs.Describable.{are_printable}
use Rattle.rdm_fixture_keys.specs.Keys.{may}
use Rattle.rdm_fixture_keys.specs.Values.{text, is_printable}
use Rattle.rdm_fixture.specs.Writing.{text_field}

pub ascii : (s : List ℕ) → IsTrue (are_printable s) → IsAscii s
ascii [] h i = omega arith
ascii (c ∷ cs) h zero = let high : c ≤ 0x7E = leb-true c 0x7E (and_parts (nat_le 0x20 c) (nat_le c 0x7E) (and_parts (is_printable c) (are_printable cs) h).0).1 in omega (arith, high)
ascii (c ∷ cs) h (suc i) = ascii cs (and_parts _ _ h).1 i

fits_text : (s : List ℕ) → length s ≤ 32 → IsTrue (are_printable s) → text (string s) ≡ Some s
fits_text s fits h = rw (le-leb (length s) 32 fits, h) refl

pub text_says : (s : List ℕ) → length s ≤ 32 → IsTrue (are_printable s) → may [] text (text_field s) ≡ Some s
text_says [] fits h = refl
text_says (c ∷ cs) fits h = rw (utf8_lossy-IsUtf8 (c ∷ cs) (IsUtf8-from_ascii (c ∷ cs) (ascii (c ∷ cs) h))) (fits_text (c ∷ cs) fits h)
