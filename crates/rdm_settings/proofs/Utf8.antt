-- Text in UTF-8.
use Rattle.std.proofs.Common.{◌≡◌, ℕ, Bool, true, false, cond, List, Some, None, refl, ap}
use Rattle.std.specs.Str.{IsUtf8, is_utf8}
use Rattle.std.proofs.lemmas.Str.{IsUtf8-from_is_utf8, is_utf8-from_IsUtf8}
use Rattle.rdm_settings.specs.Cells.{utf8_in}

text_by : (x : Bool) (bytes text : List ℕ) → x ≡ true → text ≡ bytes → Some text ≡ cond x (Some bytes) None
text_by true bytes text e h = ap Some h
text_by false bytes text e h = absurd cc

none_by : (x : Bool) (bytes : List ℕ) → ¬ (x ≡ true) → None ≡ cond x (Some bytes) None
none_by true bytes never = absurd (never refl)
none_by false bytes never = refl

pub text_is : (bytes text : List ℕ) → text ≡ bytes → IsUtf8 bytes → Some text ≡ utf8_in bytes
text_is bytes text h utf8 = text_by (is_utf8 bytes) bytes text (is_utf8-from_IsUtf8 bytes utf8) h

pub no_text : (bytes : List ℕ) → ¬ (IsUtf8 bytes) → None ≡ utf8_in bytes
no_text bytes never = none_by (is_utf8 bytes) bytes (λ e. never (IsUtf8-from_is_utf8 bytes e))
