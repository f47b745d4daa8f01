-- A survey as CSV. RFC 4180, with LF at the end of a line.
use Rattle.std.specs.Prelude.{ℕ, ◌==◌, ◌||◌, Bool, false, List, [], ◌∷◌, ◌++◌, map, decimal, if◌then◌else◌}
use Rattle.std.specs.List.{flat_map}
use Rattle.csv.specs.Writing.{default_writer, field_text, row_text}
use Rattle.rdm_survey.specs.declared.row.Row.{Row}
use Rattle.rdm_survey.specs.declared.member.Member.{Member}
use Rattle.rdm_survey.specs.declared.place.Clash.{Clash}
use Rattle.rdm_survey.specs.Places.{clashes}
use Rattle.rdm_survey.specs.Members.{Value, nothing, number, word, words, keys, members_in, said}

-- words with `; ` between them
abbrev pub joined : List (List ℕ) → List ℕ
joined [] = []
joined (w ∷ more) = w ++ flat_map (λ v. 0x3B ∷ 0x20 ∷ v) more

abbrev pub plain : Value → List ℕ
plain nothing = []
plain (number n) = decimal n
plain (word w) = w
plain (words list) = joined list

-- A spreadsheet takes what begins with `=`, `+`, `-` or `@` for a formula.
abbrev pub is_marked : List ℕ → Bool
is_marked [] = false
is_marked (b ∷ rest) = (b == 0x3D) || (b == 0x2B) || (b == 0x2D) || (b == 0x40) || (b == 0x27)

-- So an apostrophe stands before that, and before an apostrophe.
abbrev pub guarded : List ℕ → List ℕ
guarded w = if is_marked w then 0x27 ∷ w else w

-- the word that is guarded so
abbrev pub unguarded : List ℕ → List ℕ
unguarded [] = []
unguarded (b ∷ rest) = if b == 0x27 then rest else b ∷ rest

abbrev pub field : List ℕ × Value → List ℕ
field member = guarded (plain member.1)

abbrev pub fields : List (List ℕ × Value) → List (List ℕ)
fields list = map field list

-- the record of a fixture, among the clashes of a survey
abbrev pub record_of : List Clash → Row → List (List ℕ)
record_of list row = fields (members_in list row)

-- The records: the keys, and what is said of each fixture.
abbrev pub records : List Row → List (List (List ℕ))
records rows = keys ∷ map (record_of (clashes rows)) rows

-- the records one behind the other, as RFC 4180 has them: quotes around a field that needs some, commas between fields
unfoldable pub record_text : List Clash → Row → List ℕ
record_text list row = row_text default_writer (record_of list row)

unfoldable pub keys_text : List ℕ
keys_text = row_text default_writer keys

abbrev pub csv_text : List Row → List ℕ
csv_text rows = keys_text ++ flat_map (record_text (clashes rows)) rows

-- a byte of a field between quotes: a quote stands twice
abbrev pub doubled : ℕ → List ℕ
doubled b = if b == 0x22 then 0x22 ∷ b ∷ [] else b ∷ []

-- the field of a cell of the code, and with a comma before it
unfoldable pub cell_field : Member → List ℕ
cell_field m = field (said m)

unfoldable pub comma_field : Member → List ℕ
comma_field m = 0x2C ∷ field_text default_writer (cell_field m)
