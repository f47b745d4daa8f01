-- The words by which a SET would set data: one for each field.
use Rattle.std.specs.Prelude.{ℕ, ℤ, pos, ◌==◌, Bool, false, List, [], ◌∷◌, ◌++◌, length, take, drop, decimal, slice_index, Option, Some, None, Result, Ok, Err, if◌then◌else◌}
use Rattle.std.specs.Int.{w8, w16, w32, cast_signed, from_be_bytes}
use Rattle.std.specs.Fmt.{signed_decimal}
use Rattle.std.specs.Str.{bytes_eq}
use Rattle.rdm_frame.specs.Digits.{digits}
use Rattle.rdm_words.specs.FieldFacts.{number_in}
use Rattle.rdm_entry.specs.declared.field.Field.{Field}
use Rattle.rdm_entry.specs.declared.field.Field.TheVariants as fields
use Rattle.rdm_entry.specs.declared.error.Wrong.{Wrong}
use Rattle.rdm_entry.specs.Slots.{most_of}
use Rattle.rdm_entry.specs.Words.{said, is_quoted}

-- the number in two's complement that one, two or four slots are
abbrev pub signed_in : List ℕ → ℤ
signed_in slots =
    if length slots == 1 then cast_signed w8 (number_in slots) else
    if length slots == 2 then cast_signed w16 (number_in slots) else
    if length slots == 4 then cast_signed w32 (number_in slots) else pos 0

-- a text that `said` reads as it is: one in quotes has others around it
abbrev pub text_word : List ℕ → List ℕ
text_word text = if is_quoted text then 34 ∷ text ++ 34 ∷ [] else text

-- The word for the slots of a field: a number in decimal digits, an identifier in hexadecimal ones, a text as it is.
unfoldable pub word_of : Field → List ℕ → List ℕ
word_of (fields.Number width) slots = decimal (number_in slots)
word_of (fields.Named width names) slots = decimal (number_in slots)
word_of (fields.Signed width) slots = signed_decimal (signed_in slots)
word_of fields.Identifier slots = digits slots
word_of fields.Pin slots = decimal (number_in slots)
word_of (fields.Text most) slots = text_word slots
word_of fields.Language slots = slots

-- whether a word says exactly these slots
abbrev pub says : Result (List ℕ) Wrong → List ℕ → Bool
says (Ok said-slots) slots = bytes_eq said-slots slots
says (Err reason) slots = false

-- words in front of others, if there are others
abbrev pub behind_words : List (List ℕ) → Option (List (List ℕ)) → Option (List (List ℕ))
behind_words front None = None
behind_words front (Some words) = Some (front ++ words)

-- The words by which a SET of these fields sets data, unless there are none. A text takes as many slots as it may have.
abbrev pub words_of : List Field → List ℕ → Option (List (List ℕ))
words_of [] [] = Some []
words_of [] (slot ∷ slots) = None
words_of (field ∷ more) slots =
    if says (said field (word_of field (take (most_of field) slots))) (take (most_of field) slots)
    then behind_words (word_of field (take (most_of field) slots) ∷ []) (words_of more (drop (most_of field) slots)) else None
