-- Decimal numbers.
use Rattle.std.specs.Prelude.{◌≡◌, ℕ, ◌≤◌, List, length, Option, Some, None, option_and_then, nat_le, nat_lt, ◌&&◌, if◌then◌else◌}
use Rattle.std.specs.Str.{all_ascii_digits}
use Rattle.std.specs.Str.Parse.{IsNumeral, digits_value}

-- The word writes this number, in one to ten decimal digits. Zeros may stand in front.
pub record SpellsDecimal (text : List ℕ) (n : ℕ) : Type 0 where
  pub digits : IsNumeral 10 text
  pub at_most_ten : length text ≤ 10
  pub value : digits_value 10 text ≡ n

-- the number that a word writes
unfoldable pub decimal_in : List ℕ → Option ℕ
decimal_in word = if nat_le (length word) 10 && (nat_lt 0 (length word) && all_ascii_digits word) then Some (digits_value 10 word) else None

-- the number that a word writes, where it is at most this
unfoldable pub number_up_to : ℕ → List ℕ → Option ℕ
number_up_to most word = option_and_then (λ n. if nat_le n most then Some n else None) (decimal_in word)
