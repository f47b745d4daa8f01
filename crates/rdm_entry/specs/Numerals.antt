-- Numbers in decimal and in hexadecimal digits.
use Rattle.std.specs.Prelude.{ℕ, Bool, true, false, not, ◌==◌, ◌&&◌, ◌||◌, nat_le, nat_lt, List, length, slice_index, Option, Some, None, if◌then◌else◌}
use Rattle.std.specs.Char.{is_digit}
use Rattle.std.specs.List.{list_all}
use Rattle.std.specs.Option.{option_map_or}
use Rattle.std.specs.Str.Parse.{digits_value}

-- one to ten digits, and nothing else
abbrev pub is_numeral : ℕ → List ℕ → Bool
is_numeral radix word = nat_lt 0 (length word) && (nat_le (length word) 10 && list_all (λ c. is_digit c radix) word)

-- the number that a word of digits writes
unfoldable pub numeral_in : ℕ → List ℕ → Option ℕ
numeral_in radix word = if is_numeral radix word then Some (digits_value radix word) else None

-- Whether a zero in front of decimal digits leaves open what they are: as hexadecimal digits they are another number.
abbrev pub is_unclear : ℕ → List ℕ → Bool
is_unclear decimal word = (slice_index word 0 == 48) && not (option_map_or (λ hexadecimal. hexadecimal == decimal) (numeral_in 16 word) false)

-- whether hexadecimal digits are to follow: `0x`
abbrev pub has_mark : List ℕ → Bool
has_mark word = nat_lt 2 (length word) && ((slice_index word 0 == 48) && ((slice_index word 1 == 120) || (slice_index word 1 == 88)))
