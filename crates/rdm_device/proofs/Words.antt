-- Numbers and tests.
use Rattle.std.proofs.Common.{◌≡◌, ℕ, ◌^◌, ◌<◌, ◌&&◌, Bool, true, false, List, refl, sym, ap, ◌∙◌}
use Rattle.std.specs.Int.{w16, from_be_bytes}
use Rattle.std.proofs.lemmas.Nat.{from_be_bytes-to_be_bytes_2}
use Rattle.rdm_profile.specs.Values.{word_slots}

-- the number that 16 bits say
pub word_read : (n : ℕ) (bytes : List ℕ) → n < 2 ^ 16 → word_slots n ≡ bytes → n ≡ from_be_bytes w16 bytes
word_read n bytes fits e = sym (from_be_bytes-to_be_bytes_2 n fits) ∙ ap (from_be_bytes w16) e

pub never : (b : Bool) → (b && false) ≡ false
never true = refl
never false = refl
