-- What is read back of the words of a document.
use Rattle.std.specs.Prelude.{ℕ, ◌^◌, ◌&&◌, nat_lt, nat_le, Bool, false, List, [], ◌∷◌, length, take, drop, Option, Some, None, option_and_then, if◌then◌else◌}
use Rattle.std.specs.List.{list_all}
use Rattle.std.specs.Int.{Width}
use Rattle.std.specs.Char.{digit_value}
use Rattle.std.specs.Str.{bytes_eq}
use Rattle.std.specs.Str.Parse.{digits_value, without_leading_plus}
use Rattle.json.specs.Json.{Json}
use Rattle.json.specs.Find.{as_number, as_str}
use Rattle.rdm_frame.specs.DigitReading.{number_in as hexadecimal}
use Rattle.rdm_survey.specs.Shown.{shown, unshown}

-- The text of which this word is written, if it is that of one, and of a text of a fixture: those have at most 32 bytes.
unfoldable pub text_in : List ℕ → Option (List ℕ)
text_in word = if bytes_eq (shown (unshown word)) word && nat_le (length (unshown word)) 32 then Some (unshown word) else None

-- an ID: `0x` and the digits of all its bytes
unfoldable pub id_in : Width → List ℕ → Option ℕ
id_in width word = if bytes_eq (take 2 word) (0x30 ∷ 0x78 ∷ []) then hexadecimal width (drop 2 word) else None

abbrev pub is_numeral : List ℕ → Bool
is_numeral [] = false
is_numeral (c ∷ more) = list_all (λ d. nat_lt (digit_value d) 10) (c ∷ more)

-- a number in decimal digits, below 2^64
unfoldable pub number_in : List ℕ → Option ℕ
number_in word =
    let ds = without_leading_plus word in
    if is_numeral ds && nat_lt (digits_value 10 ds) (2 ^ 64) then Some (digits_value 10 ds) else None

abbrev pub below : ℕ → ℕ → Option ℕ
below bound n = if nat_lt n bound then Some n else None

-- The text, the ID and the number that a value of JSON is.
abbrev pub json_text : Json → Option (List ℕ)
json_text j = option_and_then text_in (as_str j)

abbrev pub json_id : Width → Json → Option ℕ
json_id width j = option_and_then (id_in width) (as_str j)

unfoldable pub whole_number : Json → Option ℕ
whole_number j = option_and_then number_in (as_number j)

abbrev pub json_number : ℕ → Json → Option ℕ
json_number bound j = option_and_then (below bound) (whole_number j)
