-- Sensors as a table on a terminal, a line for each.
use Rattle.std.specs.Prelude.{ℕ, ℤ, ◌==◌, List, [], ◌∷◌, ◌++◌, length, codes, decimal, Option, Some, None, if◌then◌else◌}
use Rattle.std.specs.Fmt.{signed_decimal}
use Rattle.rdm_frame.specs.Digits.{digits}
use Rattle.rdm_survey.specs.declared.table.Width.{Width}
use Rattle.rdm_survey.specs.declared.table.Width.TheVariants as wide
use Rattle.rdm_survey.specs.Columns.{line_of, placed}
use Rattle.rdm_survey.specs.Members.{place_word}
use Rattle.rdm_survey.specs.Shown.{shown}
use Rattle.rdm_survey.specs.Table.{untold}
use Rattle.rdm_words.specs.FieldFacts.{has_highest, has_lowest}
use Rattle.rdm_health.specs.declared.sensor_row.SensorRow.{SensorRow}
use Rattle.rdm_health.specs.declared.sensor_table.Column.{Column}
use Rattle.rdm_health.specs.declared.sensor_table.Column.TheVariants as column
use Rattle.rdm_health.specs.declared.sensors.SensorDefinition.{SensorDefinition}
use Rattle.rdm_health.specs.declared.sensors.SensorValue.{SensorValue}
use Rattle.rdm_health.specs.SensorNames.{prefix_symbol, sensor_type, unit_symbol}
use Rattle.rdm_health.specs.Verdicts.{verdict_on, verdict_word}

-- the two digits of a byte
unfoldable pub byte_digits : ℕ → List ℕ
byte_digits byte = digits (byte ∷ [])

abbrev pub unit_numbers : ℕ → ℕ → List ℕ
unit_numbers prefix unit = codes "(prefix " ++ byte_digits prefix ++ codes ", unit " ++ byte_digits unit ++ codes ")"

-- `mV DC`: a prefix and a unit, by their symbols if both have one, or by their numbers
abbrev pub symbol_words : ℕ → ℕ → Option (List ℕ) → Option (List ℕ) → List ℕ
symbol_words prefix unit (Some multiple) (Some symbol) = multiple ++ symbol
symbol_words prefix unit _ _ = unit_numbers prefix unit

-- a unit with its prefix
abbrev pub unit_words : ℕ → ℕ → List ℕ
unit_words prefix unit = symbol_words prefix unit (prefix_symbol prefix) (unit_symbol unit)

-- a space before words, if there are any
abbrev pub spaced : List ℕ → List ℕ
spaced words = if length words == 0 then [] else 0x20 ∷ words

-- `215 °C`
abbrev pub measured_words : SensorDefinition → ℤ → List ℕ
measured_words d v = signed_decimal v ++ spaced (unit_words d.prefix d.unit)

-- The value now, in its unit if that is told.
abbrev pub present_words : Option SensorDefinition → Option SensorValue → List ℕ
present_words _ None = untold
present_words None (Some value) = signed_decimal value.present
present_words (Some d) (Some value) = measured_words d value.present

-- a number that is told
abbrev pub number_words : Option ℤ → List ℕ
number_words None = untold
number_words (Some v) = signed_decimal v

-- what the sensor keeps, by its definition, if the value tells it
abbrev pub lowest_words : Option SensorDefinition → Option SensorValue → List ℕ
lowest_words (Some d) (Some value) = if d.keeps_extremes then number_words value.lowest else untold
lowest_words _ _ = untold

abbrev pub highest_words : Option SensorDefinition → Option SensorValue → List ℕ
highest_words (Some d) (Some value) = if d.keeps_extremes then number_words value.highest else untold
highest_words _ _ = untold

abbrev pub recorded_words : Option SensorDefinition → Option SensorValue → List ℕ
recorded_words (Some d) (Some value) = if d.keeps_recorded then number_words value.recorded else untold
recorded_words _ _ = untold

-- a name, or the number that has none
abbrev pub kind_words : Option (List ℕ) → ℕ → List ℕ
kind_words (Some name) kind = name
kind_words None kind = codes "type " ++ byte_digits kind

-- what a sensor measures: `temperature`, or `type 80`
abbrev pub type_words : ℕ → List ℕ
type_words kind = kind_words (sensor_type kind) kind

-- `15 to 60`, `from 15` or `up to 60`
abbrev pub range_words : ℤ → ℤ → List ℕ
range_words lowest highest =
    if has_lowest lowest then
    (if has_highest highest then signed_decimal lowest ++ codes " to " ++ signed_decimal highest else codes "from " ++ signed_decimal lowest)
    else (if has_highest highest then codes "up to " ++ signed_decimal highest else untold)

-- what a definition tells for a column
abbrev pub defined_words : Column → SensorDefinition → List ℕ
defined_words column.Name d = shown d.description
defined_words column.Kind d = type_words d.kind
defined_words column.Normal d = range_words d.normal_lowest d.normal_highest
defined_words _ d = []

abbrev pub told_words : Column → Option SensorDefinition → List ℕ
told_words c None = untold
told_words c (Some d) = defined_words c d

-- What stands in a column.
abbrev pub words_in : Column → SensorRow → List ℕ
words_in column.Place row = place_word row.uid row.sub
words_in column.Number row = decimal row.number
words_in column.Name row = told_words column.Name row.definition
words_in column.Kind row = told_words column.Kind row.definition
words_in column.Value row = present_words row.definition row.value
words_in column.Lowest row = lowest_words row.definition row.value
words_in column.Highest row = highest_words row.definition row.value
words_in column.Recorded row = recorded_words row.definition row.value
words_in column.Normal row = told_words column.Normal row.definition
words_in column.Verdict row = verdict_word (verdict_on row.definition row.value)

-- how wide a column is
abbrev pub width : Column → Width
width column.Place = wide.AtLeast 17
width column.Number = wide.AtLeast 3
width column.Name = wide.Cut 20
width column.Kind = wide.AtLeast 16
width column.Value = wide.AtLeast 12
width column.Lowest = wide.AtLeast 6
width column.Highest = wide.AtLeast 7
width column.Recorded = wide.AtLeast 8
width column.Normal = wide.AtLeast 12
width column.Verdict = wide.Rest

abbrev pub heading : Column → List ℕ
heading column.Place = codes "UID"
heading column.Number = codes "No."
heading column.Name = codes "Sensor"
heading column.Kind = codes "Type"
heading column.Value = codes "Value"
heading column.Lowest = codes "Lowest"
heading column.Highest = codes "Highest"
heading column.Recorded = codes "Recorded"
heading column.Normal = codes "Normal"
heading column.Verdict = codes "Verdict"

-- the columns, in order
abbrev pub columns : List Column
columns =
    column.Place ∷ column.Number ∷ column.Name ∷ column.Kind ∷ column.Value ∷ column.Lowest ∷ column.Highest ∷ column.Recorded
    ∷ column.Normal ∷ column.Verdict ∷ []

abbrev pub sensor_heading : List ℕ
sensor_heading = line_of (λ c. placed (width c) (heading c)) columns

-- The line of a sensor.
abbrev pub sensor_line : SensorRow → List ℕ
sensor_line row = line_of (λ c. placed (width c) (words_in c row)) columns
