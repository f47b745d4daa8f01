-- The data of a command, out of words.
use Rattle.std.specs.Prelude.{ℕ, nat_le, List, [], ◌∷◌, length, Option, Some, None, Result, Ok, Err, if◌then◌else◌}
use Rattle.std.specs.Option.{option_map_or}
use Rattle.rdm_frame.specs.DigitReading.{bytes_in}
use Rattle.rdm_entry.specs.declared.field.Field.{Field}
use Rattle.rdm_entry.specs.declared.error.EntryError.{EntryError}
use Rattle.rdm_entry.specs.Entries.{data_in}
use Rattle.rdm_settings.specs.declared.data.Unsaid.{Unsaid}
use Rattle.rdm_settings.specs.declared.data.Unsaid.TheVariants as unsaid

-- the bytes that a word spells in hexadecimal digits, no more than a frame carries. E1.20 section 6.2.10.
abbrev pub digits_in : List ℕ → Result (List ℕ) Unsaid
digits_in word =
    if nat_le (length word) 462 then option_map_or (λ slots. Ok slots) (bytes_in word) (Err (unsaid.Digits 0))
    else Err unsaid.TooLong

-- no word for no data, or one word of digits
abbrev pub digits_of : List (List ℕ) → Result (List ℕ) Unsaid
digits_of [] = Ok []
digits_of (word ∷ []) = digits_in word
digits_of (word ∷ other ∷ more) = Err (unsaid.Digits 1)

abbrev pub for_fields : Result (List ℕ) EntryError → Result (List ℕ) Unsaid
for_fields (Ok slots) = Ok slots
for_fields (Err e) = Err (unsaid.Field e)

-- What words say: for fields one word each, or digits where nobody knows the fields.
unfoldable pub data_of : Option (List Field) → List (List ℕ) → Result (List ℕ) Unsaid
data_of (Some fields) words = for_fields (data_in fields words)
data_of None words = digits_of words
