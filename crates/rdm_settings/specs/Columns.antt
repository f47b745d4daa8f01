-- The columns of a file, by the names in its first line.
use Rattle.std.specs.Prelude.{◌≡◌, ℕ, Bool, true, false, ◌==◌, ◌||◌, nat_le, ⊤, List, [], ◌∷◌, ◌++◌, codes, take, Option, Some, None, is_some, if◌then◌else◌}
use Rattle.std.specs.Borrow.{Bor}
use Rattle.std.specs.Int.{w16}
use Rattle.std.specs.List.{list_any}
use Rattle.std.specs.Option.{option_map, option_map_or, option_or}
use Rattle.std.specs.Str.{str_eq_ignore_ascii_case}
use Rattle.rdm_frame.specs.DigitReading.{number_in}
use Rattle.rdm_table.specs.declared.kind.Verb.TheVariants.{Set}
use Rattle.rdm_params.specs.Table.Rows.{row_of}
use Rattle.rdm_entry.specs.declared.field.Field.{Field}
use Rattle.rdm_entry.specs.Names.{parameter_named}
use Rattle.rdm_entry.specs.Slots.{Fit}
use Rattle.rdm_settings.specs.Cells.{utf8_in}
use Rattle.rdm_settings.specs.declared.complaint.Trouble.TheVariants as trouble
use Rattle.rdm_settings.specs.declared.column.Role.{Role}
use Rattle.rdm_settings.specs.declared.column.Role.TheVariants as role
use Rattle.rdm_settings.specs.declared.column.Meaning.{Meaning}
use Rattle.rdm_settings.specs.declared.column.Meaning.TheVariants as meaning
use Rattle.rdm_settings.specs.declared.column.Column.{Column}

-- the PID of the parameter with this name, in upper or lower case
abbrev pub named : List ℕ → Option ℕ
named name = option_map_or (λ text. parameter_named text) (utf8_in name) None

-- the PID of a parameter: four hexadecimal digits, or its name in the standard
abbrev pub pid_in : List ℕ → Option ℕ
pid_in name = option_or (number_in w16 name) (named name)

-- what a name says that a column has: the fixtures, their sub-devices or the data of a parameter
unfoldable pub role_of : List ℕ → Option Role
role_of name =
    if str_eq_ignore_ascii_case name (codes "uid") then Some role.Uid
    else (if str_eq_ignore_ascii_case name (codes "sub") then Some role.Sub
    else option_map role.Parameter (pid_in name))

-- whether a column has that
abbrev pub has : Role → Meaning → Bool
has role.Uid meaning.Uid = true
has role.Sub meaning.Sub = true
has (role.Parameter pid) (meaning.Parameter other fields) = pid == other
has r m = false

abbrev pub is_for : Role → Column → Bool
is_for r column = has r column.meaning

-- the fields of a SET are known, or it is one of a maker's own. E1.20 table A-3.
abbrev pub is_settable : ℕ → Option (Bor (List Field)) → Bool
is_settable pid fields = nat_le 0x8000 pid || is_some fields

abbrev pub meaning_as : Role → Option (Bor (List Field)) → Meaning
meaning_as role.Uid fields = meaning.Uid
meaning_as role.Sub fields = meaning.Sub
meaning_as (role.Parameter pid) fields =
    if is_settable pid fields then meaning.Parameter pid fields else meaning.Nothing (trouble.NotSettable pid)

-- what a column has behind others: nothing if one of these has it
abbrev pub meaning_behind : List Column → Role → Option (Bor (List Field)) → Meaning
meaning_behind before r fields =
    if list_any (λ column. is_for r column) before then meaning.Nothing trouble.ColumnTwice else meaning_as r fields

-- the same by its name, if that is one
abbrev pub meaning_of : List Column → Option Role → Option (Bor (List Field)) → Meaning
meaning_of before None fields = meaning.Nothing trouble.NoParameter
meaning_of before (Some r) fields = meaning_behind before r fields

-- These are known to be the fields of its SET, as rdm_entry knows them.
abbrev pub Knows : Option Role → Option (Bor (List Field)) → Type 0
Knows None fields = ⊤
Knows (Some role.Uid) fields = ⊤
Knows (Some role.Sub) fields = ⊤
Knows (Some (role.Parameter pid)) fields = Fit (row_of pid) Set (option_map (λ list. list.now) fields)

-- the column with this name, behind others
unfoldable pub IsColumn : List Column → List ℕ → Column → Type 0
IsColumn before name column =
    (fields : Option (Bor (List Field))) × Knows (role_of name) fields
    × (column ≡ record { name = take 255 name; meaning = meaning_of before (role_of name) fields })

-- The columns with these names, one each, behind others.
abbrev pub AreColumns : List Column → List (List ℕ) → List Column → Type 0
AreColumns before [] columns = columns ≡ []
AreColumns before (name ∷ names) [] = ⊥
AreColumns before (name ∷ names) (column ∷ columns) = IsColumn before name column × AreColumns (before ++ column ∷ []) names columns
