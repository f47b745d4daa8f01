-- What a file says: what each of its cells sets, and what is wrong with it.
use Rattle.std.specs.Prelude.{◌≡◌, ℕ, ◌+◌, ◌==◌, List, [], ◌∷◌, ◌++◌, length, take, unwrap_or, Option, Some, None, option_map, Result, Ok, Err, if◌then◌else◌}
use Rattle.std.specs.Borrow.{Bor}
use Rattle.std.specs.List.{flat_map, list_all, list_any}
use Rattle.std.specs.Option.{option_map_or}
use Rattle.rdm_frame.specs.declared.uid.Uid.{Uid}
use Rattle.rdm_entry.specs.declared.field.Field.{Field}
use Rattle.rdm_settings.specs.declared.data.Unsaid.{Unsaid}
use Rattle.rdm_settings.specs.declared.complaint.Complaint.{Complaint}
use Rattle.rdm_settings.specs.declared.complaint.Trouble.{Trouble}
use Rattle.rdm_settings.specs.declared.complaint.Trouble.TheVariants as trouble
use Rattle.rdm_settings.specs.declared.column.Role.TheVariants as role
use Rattle.rdm_settings.specs.declared.column.Meaning.{Meaning}
use Rattle.rdm_settings.specs.declared.column.Meaning.TheVariants as meaning
use Rattle.rdm_settings.specs.declared.column.Column.{Column}
use Rattle.rdm_settings.specs.declared.setting.Setting.{Setting}
use Rattle.rdm_settings.specs.Cells.{cell_data}
use Rattle.rdm_settings.specs.Columns.{AreColumns, is_for}
use Rattle.rdm_settings.specs.Lines.{cells_in, is_torn, lines_of}
use Rattle.rdm_settings.specs.Places.{place_in, sub_said, uid_said}
use Rattle.rdm_settings.specs.Twice.{of_line, twice}

-- what a cell says: a setting, or what is wrong with it
abbrev pub Finding : Type 0
Finding = Result Setting Complaint

-- what is wrong with a cell of a column
abbrev pub about : ℕ → Column → List ℕ → Trouble → Complaint
about line column cell wrong = record { line = line; column = column.name; cell = take 255 cell; trouble = wrong }

-- ---- the first line

abbrev pub meaning_says : Column → Meaning → List Finding
meaning_says column (meaning.Nothing wrong) = Err (about 1 column [] wrong) ∷ []
meaning_says column meaning.Uid = []
meaning_says column meaning.Sub = []
meaning_says column (meaning.Parameter pid fields) = []

unfoldable pub column_says : Column → List Finding
column_says column = meaning_says column column.meaning

-- what is wrong with the columns: none has the fixtures, or one has nothing
unfoldable pub heading_says : List Column → List Finding
heading_says columns =
    (if list_any (λ column. is_for role.Uid column) columns then [] else Err (of_line 1 trouble.NoUidColumn) ∷ [])
    ++ flat_map column_says columns

-- ---- the other lines

-- a cell of the fixtures or of their sub-devices, which sets nothing
abbrev pub refused : {A : Type 0} → ℕ → Column → List ℕ → Result A Trouble → List Finding
refused line column cell (Ok a) = []
refused line column cell (Err wrong) = Err (about line column cell wrong) ∷ []

-- the setting of the device that the line is for
abbrev pub setting_says : ℕ → Option (Uid × ℕ) → ℕ → List ℕ → List Finding
setting_says line None pid load = []
setting_says line (Some place) pid load = Ok (record { line = line; uid = place.0; sub = place.1; pid = pid; load = load }) ∷ []

abbrev pub data_set : ℕ → Option (Uid × ℕ) → Column → ℕ → List ℕ → Result (List ℕ) Unsaid → List Finding
data_set line place column pid cell (Ok load) = setting_says line place pid load
data_set line place column pid cell (Err unsaid) = Err (about line column cell (trouble.NoData pid unsaid)) ∷ []

-- what the cell of a parameter says
unfoldable pub data_says : ℕ → Option (Uid × ℕ) → Column → ℕ → Option (Bor (List Field)) → List ℕ → List Finding
data_says line place column pid fields cell = data_set line place column pid cell (cell_data (option_map (λ list. list.now) fields) cell)

abbrev pub meaning_sets : ℕ → Option (Uid × ℕ) → Column → List ℕ → Meaning → List Finding
meaning_sets line place column cell meaning.Uid = refused line column cell (uid_said cell)
meaning_sets line place column cell meaning.Sub = refused line column cell (sub_said cell)
meaning_sets line place column cell (meaning.Parameter pid fields) =
    if length cell == 0 then [] else data_says line place column pid fields cell
meaning_sets line place column cell (meaning.Nothing wrong) = []

-- What a cell says, in a line for this device. An empty cell of a parameter says nothing.
unfoldable pub cell_says : ℕ → Option (Uid × ℕ) → Column → List ℕ → List Finding
cell_says line place column cell = meaning_sets line place column cell column.meaning

-- the cells from left to right
abbrev pub cells_say : ℕ → Option (Uid × ℕ) → List Column → List (List ℕ) → List Finding
cells_say line place [] cells = []
cells_say line place (column ∷ columns) [] = []
cells_say line place (column ∷ columns) (cell ∷ cells) = cell_says line place column cell ++ cells_say line place columns cells

-- one cell for each column
abbrev pub full_row_says : ℕ → List Column → List (List ℕ) → List Finding
full_row_says line columns cells =
    if length cells == length columns then cells_say line (place_in columns cells) columns cells
    else Err (of_line line (trouble.Cells (length cells) (length columns))) ∷ []

-- What a line with these cells says: nothing if all are empty.
unfoldable pub row_says : ℕ → List Column → List (List ℕ) → List Finding
row_says line columns cells = if list_all (λ cell. length cell == 0) cells then [] else full_row_says line columns cells

-- what a line says
unfoldable pub line_says : List Column → ℕ → List ℕ → List Finding
line_says columns number line =
    if is_torn line then Err (of_line number trouble.Torn) ∷ []
    else option_map_or (λ cells. row_says number columns cells) (cells_in line) []

-- the lines one behind the other, the first of them with this number
abbrev pub lines_say : List Column → ℕ → List (List ℕ) → List Finding
lines_say columns number [] = []
lines_say columns number (line ∷ lines) = line_says columns number line ++ lines_say columns (number + 1) lines

-- ---- the file

-- the names of the columns
abbrev pub names_in : List ℕ → List (List ℕ)
names_in line = if is_torn line then [] else unwrap_or (cells_in line) []

abbrev pub names_of : List (List ℕ) → List (List ℕ)
names_of [] = []
names_of (first ∷ lines) = names_in first

-- What the lines of a file say, of which the first names these columns: what is wrong with it, and what the others say.
abbrev pub file_says : List Column → List (List ℕ) → List Finding
file_says columns [] = []
file_says columns (first ∷ lines) =
    if is_torn first then Err (of_line 1 trouble.Torn) ∷ []
    else heading_says columns ++ (if length columns == 0 then [] else lines_say columns 2 lines)

-- the settings among findings, and the complaints
abbrev pub setting_in : Finding → List Setting
setting_in (Ok setting) = setting ∷ []
setting_in (Err complaint) = []

abbrev pub complaint_in : Finding → List Complaint
complaint_in (Ok setting) = []
complaint_in (Err complaint) = complaint ∷ []

-- These are the settings of a file and what is wrong with it: each cell that says one has its setting, in order; and each that is wrong,
-- each line and each column that is wrong has its complaint, and so does each device and parameter that is set twice.
pub record IsRead (text : List ℕ) (settings : List Setting) (complaints : List Complaint) : Type 0 where
  pub columns : List Column
  pub named : AreColumns [] (names_of (lines_of text)) columns
  pub set : settings ≡ flat_map setting_in (file_says columns (lines_of text))
  pub wrong : complaints ≡ flat_map complaint_in (file_says columns (lines_of text)) ++ twice settings
