-- Decimal numbers as they are read: a plus and zeros may stand in front.
use Rattle.std.specs.Prelude.{ℕ, ◌^◌, List, length, drop, Option, Some, None, option_and_then, nat_le, nat_lt, Bool, ◌&&◌, if◌then◌else◌, ℤ}
use Rattle.std.specs.Str.{all_ascii_digits}
use Rattle.std.specs.Str.Parse.{digits_value, without_leading_plus, without_leading_sign, starts_with_minus, signed_digits_value}

-- one decimal digit or more, and nothing else
abbrev pub is_numeral : List ℕ → Bool
is_numeral word = nat_lt 0 (length word) && all_ascii_digits word

-- the number that a word writes, behind a plus or none, if it has at most 64 bits
unfoldable pub unsigned_in : List ℕ → Option ℕ
unsigned_in word =
    if is_numeral (without_leading_plus word) && nat_lt (digits_value 10 (without_leading_plus word)) (2 ^ 64)
    then Some (digits_value 10 (without_leading_plus word)) else None

-- the same, if it is at most this
unfoldable pub number_up_to : ℕ → List ℕ → Option ℕ
number_up_to most word = option_and_then (λ n. if nat_le n most then Some n else None) (unsigned_in word)

-- the most that a number of 16 bits comes to without its sign
abbrev pub most_of : Bool → ℕ
most_of minus = if minus then 32768 else 32767

-- the number that a word writes, behind a sign or none, if it has at most 16 bits
unfoldable pub signed_in : List ℕ → Option ℤ
signed_in word =
    if is_numeral (without_leading_sign word) && nat_le (digits_value 10 (without_leading_sign word)) (most_of (starts_with_minus word))
    then Some (signed_digits_value 10 word) else None
