-- A survey as a table on a terminal, a line for each fixture.
use Rattle.std.specs.Prelude.{ℕ, ◌+◌, ◌-◌, ◌==◌, nat_lt, List, [], ◌∷◌, ◌++◌, codes, decimal, Option, Some, None, if◌then◌else◌}
use Rattle.rdm_survey.specs.declared.columns.Column.{Column}
use Rattle.rdm_survey.specs.declared.columns.Column.TheVariants as column
use Rattle.rdm_survey.specs.declared.device_info.DeviceInfo.{DeviceInfo}
use Rattle.rdm_survey.specs.declared.row.Row.{Row}
use Rattle.rdm_survey.specs.declared.row.StatusCounts.{StatusCounts}
use Rattle.rdm_survey.specs.declared.table.Width.{Width}
use Rattle.rdm_survey.specs.declared.table.Width.TheVariants as wide
use Rattle.rdm_survey.specs.Columns.{line_of, placed}
use Rattle.rdm_survey.specs.Members.{uid_word}
use Rattle.rdm_survey.specs.Shown.{shown}

-- what stands where the fixture didn't tell
abbrev pub untold : List ℕ
untold = 0x2D ∷ []

abbrev pub text_words : Option (List ℕ) → List ℕ
text_words None = untold
text_words (Some text) = shown text

abbrev pub number_words : Option ℕ → List ℕ
number_words None = untold
number_words (Some n) = decimal n

-- the slots, as `101-108`, or `101` if there is one
abbrev pub range_words : Option ℕ → ℕ → List ℕ
range_words None footprint = untold
range_words (Some first) footprint =
    if nat_lt 1 footprint then decimal first ++ 0x2D ∷ decimal (first + footprint - 1) else decimal first

abbrev pub name_words : Option (List ℕ) → List ℕ
name_words None = []
name_words (Some text) = codes ": " ++ shown text

-- `2 of 3: Fine`
abbrev pub personality_words : Option (List ℕ) → DeviceInfo → List ℕ
personality_words name device = decimal device.personality ++ codes " of " ++ decimal device.personalities ++ name_words name

abbrev pub counted : ℕ → List ℕ → List ℕ
counted n what = decimal n ++ what ++ (if n == 1 then [] else 0x73 ∷ [])

-- `2 errors, 1 warning`, or `ok`
abbrev pub count_words : ℕ → ℕ → List ℕ
count_words errors warnings =
    if errors == 0 then (if warnings == 0 then codes "ok" else counted warnings (codes " warning"))
    else (if warnings == 0 then counted errors (codes " error")
    else counted errors (codes " error") ++ codes ", " ++ counted warnings (codes " warning"))

abbrev pub status_words : Option StatusCounts → List ℕ
status_words None = untold
status_words (Some status) = count_words status.errors status.warnings

-- what DEVICE_INFO tells for a column
abbrev pub told_in : Column → DeviceInfo → Option (List ℕ) → List ℕ
told_in column.Address d name = range_words d.address d.footprint
told_in column.Footprint d name = decimal d.footprint
told_in column.Personality d name = personality_words name d
told_in column.SubDevices d name = decimal d.sub_devices
told_in column.Sensors d name = decimal d.sensors
told_in _ d name = []

abbrev pub device_words : Column → Option DeviceInfo → Option (List ℕ) → List ℕ
device_words c None name = untold
device_words c (Some d) name = told_in c d name

-- What stands in a column.
abbrev pub words_in : Column → Row → List ℕ
words_in column.Uid row = uid_word row.uid
words_in column.Manufacturer row = text_words row.manufacturer
words_in column.Model row = text_words row.model
words_in column.Label row = text_words row.label
words_in column.Address row = device_words column.Address row.device row.personality
words_in column.Footprint row = device_words column.Footprint row.device row.personality
words_in column.Personality row = device_words column.Personality row.device row.personality
words_in column.Software row = text_words row.software
words_in column.SubDevices row = device_words column.SubDevices row.device row.personality
words_in column.Sensors row = device_words column.Sensors row.device row.personality
words_in column.Hours row = number_words row.hours
words_in column.Status row = status_words row.status

-- how wide a column is; the last is as wide as what stands in it
abbrev pub width : Column → Width
width column.Uid = wide.Cut 13
width column.Manufacturer = wide.Cut 14
width column.Model = wide.Cut 18
width column.Label = wide.Cut 16
width column.Address = wide.Cut 7
width column.Footprint = wide.Cut 5
width column.Personality = wide.Cut 18
width column.Software = wide.Cut 10
width column.SubDevices = wide.Cut 4
width column.Sensors = wide.Cut 7
width column.Hours = wide.Cut 6
width column.Status = wide.Rest

abbrev pub heading : Column → List ℕ
heading column.Uid = codes "UID"
heading column.Manufacturer = codes "Manufacturer"
heading column.Model = codes "Model"
heading column.Label = codes "Label"
heading column.Address = codes "Address"
heading column.Footprint = codes "Slots"
heading column.Personality = codes "Personality"
heading column.Software = codes "Software"
heading column.SubDevices = codes "Subs"
heading column.Sensors = codes "Sensors"
heading column.Hours = codes "Hours"
heading column.Status = codes "Status"

-- the columns, in order
abbrev pub columns : List Column
columns =
    column.Uid ∷ column.Manufacturer ∷ column.Model ∷ column.Label ∷ column.Address ∷ column.Footprint ∷ column.Personality
    ∷ column.Software ∷ column.SubDevices ∷ column.Sensors ∷ column.Hours ∷ column.Status ∷ []

abbrev pub heading_line : List ℕ
heading_line = line_of (λ c. placed (width c) (heading c)) columns

-- The line of a fixture.
abbrev pub row_line : Row → List ℕ
row_line row = line_of (λ c. placed (width c) (words_in c row)) columns
