-- What a cell says for a parameter.
use Rattle.std.specs.Prelude.{ℕ, Bool, false, not, ◌==◌, ◌&&◌, ◌||◌, List, [], ◌∷◌, length, ◌++◌, filter, Option, Some, None, Result, Ok, Err, if◌then◌else◌}
use Rattle.std.specs.List.{slice_split}
use Rattle.std.specs.Option.{option_map_or}
use Rattle.std.specs.Str.{is_utf8}
use Rattle.rdm_entry.specs.declared.field.Field.{Field}
use Rattle.rdm_entry.specs.declared.field.Field.TheVariants as fields
use Rattle.rdm_entry.specs.declared.error.Wrong.{Wrong}
use Rattle.rdm_entry.specs.Words.{text_said}
use Rattle.rdm_survey.specs.Csv as survey
use Rattle.rdm_settings.specs.declared.data.Unsaid.{Unsaid}
use Rattle.rdm_settings.specs.declared.data.Unsaid.TheVariants as unsaid
use Rattle.rdm_settings.specs.Data.{data_of}

-- a hyphen says that there are no data
abbrev pub is_hyphen : List ℕ → Bool
is_hyphen [] = false
is_hyphen (b ∷ []) = b == 0x2D
is_hyphen (b ∷ c ∷ more) = false

-- ---- words

abbrev pub is_blank : ℕ → Bool
is_blank b = (b == 32) || (b == 9)

-- what stands between blanks is a word, unless it is empty
abbrev pub is_word : List ℕ → Bool
is_word piece = not (length piece == 0)

unfoldable pub split_words : List ℕ → List (List ℕ)
split_words cell = filter is_word (slice_split is_blank cell)

abbrev pub words_of : List ℕ → List (List ℕ)
words_of cell = if is_hyphen cell then [] else split_words cell

-- the text that bytes are in UTF-8
abbrev pub utf8_in : List ℕ → Option (List ℕ)
utf8_in bytes = if is_utf8 bytes then Some bytes else None

-- the words behind others, if all of them are text in UTF-8
abbrev pub texts_behind : List (List ℕ) → List (List ℕ) → Option (List (List ℕ))
texts_behind before [] = Some before
texts_behind before (word ∷ words) = option_map_or (λ text. texts_behind (before ++ text ∷ []) words) (utf8_in word) None

abbrev pub texts_in : List (List ℕ) → Option (List (List ℕ))
texts_in words = texts_behind [] words

-- the words of a cell are the data
unfoldable pub word_data : Option (List Field) → List ℕ → Result (List ℕ) Unsaid
word_data fields cell = option_map_or (λ words. data_of fields words) (texts_in (words_of cell)) (Err unsaid.NoText)

-- ---- texts

-- a spreadsheet takes it for a formula, or it begins with an apostrophe
abbrev pub is_marked : List ℕ → Bool
is_marked text = survey.is_marked text

-- The text without the apostrophe that `line list` puts before such a one.
abbrev pub unguarded : List ℕ → List ℕ
unguarded [] = []
unguarded (b ∷ rest) = if (b == 0x27) && is_marked rest then rest else b ∷ rest

abbrev pub text_of : List ℕ → List ℕ
text_of cell = if is_hyphen cell then [] else unguarded cell

-- why the one word of a text is wrong
abbrev pub of_text : Result (List ℕ) Wrong → Result (List ℕ) Unsaid
of_text (Ok slots) = Ok slots
of_text (Err wrong) = Err (unsaid.Field (record { index = 0; wrong = wrong }))

-- the cell is a text whole, of at most so many characters
unfoldable pub text_data : ℕ → List ℕ → Result (List ℕ) Unsaid
text_data most cell = of_text (text_said most (text_of cell))

-- ---- both

-- how many characters a text has at most
abbrev pub most_of : Field → Option ℕ
most_of (fields.Text most) = Some most
most_of field = None

-- the same of a text that is the only field
abbrev pub lone_text : Option (List Field) → Option ℕ
lone_text None = None
lone_text (Some []) = None
lone_text (Some (field ∷ [])) = most_of field
lone_text (Some (field ∷ other ∷ more)) = None

-- The data that a cell says for a parameter with these fields, where they are known.
unfoldable pub cell_data : Option (List Field) → List ℕ → Result (List ℕ) Unsaid
cell_data known cell = option_map_or (λ most. text_data most cell) (lone_text known) (word_data known cell)
