-- What a word says for a field of parameter data.
use Rattle.std.specs.Prelude.{ℕ, ◌-◌, ◌/◌, ◌%◌, Bool, true, false, not, ◌==◌, ◌&&◌, ◌||◌, nat_le, nat_lt, List, [], ◌∷◌, length, map, find, take, drop, slice_index, Option, Some, None, Result, Ok, Err, if◌then◌else◌}
use Rattle.std.specs.Char.{to_ascii_lowercase, is_ascii_alphabetic}
use Rattle.std.specs.Int.{w16, w32, to_be_bytes}
use Rattle.std.specs.List.{list_all}
use Rattle.std.specs.Option.{option_map, option_map_or}
use Rattle.std.specs.Str.{bytes_eq}
use Rattle.rdm_frame.specs.Digits.{within}
use Rattle.rdm_frame.specs.DigitReading.{number_in}
use Rattle.rdm_profile.specs.declared.profile.fields.Width.{Width}
use Rattle.rdm_profile.specs.declared.profile.fields.Width.TheVariants.{One, Two, Four}
use Rattle.rdm_profile.specs.Fields.{reach_of}
use Rattle.rdm_standard_names.specs.declared.table.Table.{Table}
use Rattle.rdm_entry.specs.declared.field.Field.{Field}
use Rattle.rdm_entry.specs.declared.field.Field.TheVariants as fields
use Rattle.rdm_entry.specs.declared.error.Wrong.{Wrong}
use Rattle.rdm_entry.specs.declared.error.Wrong.TheVariants as wrong
use Rattle.rdm_entry.specs.Numerals.{numeral_in, is_unclear, has_mark}

-- ---- numbers

-- a number of so many slots, most significant byte first. E1.20 section 6.2.10.
abbrev pub slots_of : Width → ℕ → List ℕ
slots_of One n = n ∷ []
slots_of Two n = to_be_bytes w16 n
slots_of Four n = to_be_bytes w32 n

-- the number in its slots, where they can say it
unfoldable pub ranged : Width → ℕ → Result (List ℕ) Wrong
ranged width n = if nat_lt n (reach_of width) then Ok (slots_of width n) else Err wrong.Range

-- a letter in lower case, and a blank for what stands in place of one
abbrev pub sound : ℕ → ℕ
sound b = if (b == 95) || (b == 45) then 32 else to_ascii_lowercase b

-- whether a word is this name, in upper or lower case, with blanks, hyphens or underlines between its parts
abbrev pub is_called : List ℕ → List ℕ → Bool
is_called name word = bytes_eq (map sound name) (map sound word)

-- the first number of a table that has this name
unfoldable pub number_named : Table → List ℕ → Option ℕ
number_named names word = option_map (λ row. row.0) (find (λ row. is_called row.1.now word) names.0.now)

-- decimal digits
abbrev pub decimal_said : Width → List ℕ → ℕ → Result (List ℕ) Wrong
decimal_said width word n = if is_unclear n word then Err wrong.Unclear else ranged width n

-- the number, if there is one
abbrev pub ranged_or : Width → Option ℕ → Result (List ℕ) Wrong
ranged_or width number = option_map_or (λ n. ranged width n) number (Err wrong.Number)

-- a number: decimal digits, hexadecimal ones behind `0x`, or the number of which the word is the name, if it is one
abbrev pub number_said : Width → Option ℕ → List ℕ → Result (List ℕ) Wrong
number_said width named word =
    option_map_or (λ n. decimal_said width word n) (numeral_in 10 word)
    (ranged_or width (if has_mark word then numeral_in 16 (drop 2 word) else named))

-- ---- numbers with a sign

-- a number below 0 in two's complement
abbrev pub negative : Width → ℕ → Result (List ℕ) Wrong
negative width n = if nat_le n (reach_of width / 2) then ranged width ((reach_of width - n) % reach_of width) else Err wrong.Range

-- a number from 0 on, where one bit is the sign
abbrev pub positive : Width → List ℕ → ℕ → Result (List ℕ) Wrong
positive width word n =
    if is_unclear n word then Err wrong.Unclear
    else (if nat_lt n (reach_of width / 2) then ranged width n else Err wrong.Range)

-- a number with a sign: decimal digits, with a minus in front or without, or hexadecimal ones behind `0x`, which are its slots
abbrev pub signed_said : Width → List ℕ → Result (List ℕ) Wrong
signed_said width word =
    if slice_index word 0 == 45 then option_map_or (λ n. negative width n) (numeral_in 10 (drop 1 word)) (Err wrong.Number)
    else option_map_or (λ n. positive width word n) (numeral_in 10 word)
    (if has_mark word then ranged_or width (numeral_in 16 (drop 2 word)) else Err wrong.Number)

-- ---- what isn't a number that counts

-- four hexadecimal digits, with `0x` in front or without
abbrev pub identifier_said : List ℕ → Result (List ℕ) Wrong
identifier_said word =
    option_map_or (λ n. Ok (to_be_bytes w16 n)) (number_in w16 (if has_mark word then drop 2 word else word)) (Err wrong.Identifier)

-- one to four decimal digits
abbrev pub pin_said : List ℕ → Result (List ℕ) Wrong
pin_said word =
    if nat_le (length word) 4 then option_map_or (λ n. ranged Two n) (numeral_in 10 word) (Err wrong.Pin)
    else Err wrong.Pin

-- double quotes stand at both ends
abbrev pub is_quoted : List ℕ → Bool
is_quoted word = nat_le 2 (length word) && ((slice_index word 0 == 34) && (slice_index word (length word - 1) == 34))

-- the text of a word: what stands in double quotes, or all of it
abbrev pub text_in : List ℕ → List ℕ
text_in word = if is_quoted word then take (length word - 1 - 1) (drop 1 word) else word

-- printable ASCII characters, and no more than may be
abbrev pub text_said : ℕ → List ℕ → Result (List ℕ) Wrong
text_said most text =
    if not (list_all (λ b. within 0x20 b 0x7E) text) then Err wrong.Unprintable
    else (if nat_le (length text) most then Ok text else Err wrong.Long)

-- two letters
abbrev pub language_said : List ℕ → Result (List ℕ) Wrong
language_said word =
    if (length word == 2) && list_all (λ b. is_ascii_alphabetic b) word then Ok word else Err wrong.Language

-- What a word says for a field: the slots of it, or why it says nothing.
unfoldable pub said : Field → List ℕ → Result (List ℕ) Wrong
said (fields.Number width) word = number_said width None word
said (fields.Named width names) word = number_said width (number_named names word) word
said (fields.Signed width) word = signed_said width word
said fields.Identifier word = identifier_said word
said fields.Pin word = pin_said word
said (fields.Text most) word = text_said most (text_in word)
said fields.Language word = language_said word
