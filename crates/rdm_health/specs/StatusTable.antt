-- The status of fixtures as a table on a terminal, a line for each message.
use Rattle.std.specs.Prelude.{ℕ, ◌==◌, ◌||◌, ◌&&◌, nat_le, Bool, false, List, [], ◌∷◌, ◌++◌, codes, decimal, Option, Some, None, if◌then◌else◌}
use Rattle.std.specs.Option.{option_map}
use Rattle.std.specs.Int.{w16, cast_signed, to_be_bytes}
use Rattle.std.specs.Fmt.{signed_decimal}
use Rattle.rdm_frame.specs.declared.uid.Uid.{Uid}
use Rattle.rdm_frame.specs.Digits.{digits}
use Rattle.rdm_frame.specs.Severities.{severity_in, severity_name}
use Rattle.rdm_survey.specs.Members.{uid_word}
use Rattle.rdm_survey.specs.Shown.{shown}
use Rattle.rdm_survey.specs.Columns.{padded}
use Rattle.rdm_survey.specs.Table.{untold}
use Rattle.rdm_health.specs.declared.status_row.StatusRow.{StatusRow}
use Rattle.rdm_health.specs.declared.statuses.StatusEntry.{StatusEntry}
use Rattle.rdm_health.specs.StatusNames.{lamp_state, slot_label, status_text}

-- the four digits of a number of 16 bits
unfoldable pub word_digits : ℕ → List ℕ
word_digits word = digits (to_be_bytes w16 word)

-- a number of 16 bits with a sign
unfoldable pub signed_word : ℕ → List ℕ
signed_word word = signed_decimal (cast_signed w16 word)

-- a name, or the number that has none: its digits behind these words
abbrev pub name_or : List ℕ → Option (List ℕ) → List ℕ → List ℕ
name_or noun (Some name) slots = name
name_or noun None slots = noun ++ digits slots

-- what a slot controls, or its number
abbrev pub label_words : ℕ → List ℕ
label_words value = name_or (codes "slot ") (slot_label value) (to_be_bytes w16 value)

-- What stands in the place of `%d`, `%x` and `%L`: a number with a sign, its digits, and what a slot controls. Section 10.3.3.
abbrev pub is_sign : ℕ → Bool
is_sign b = (b == 0x64) || (b == 0x78) || (b == 0x4C)

abbrev pub begins_with_sign : List ℕ → Bool
begins_with_sign (b ∷ c ∷ more) = (b == 0x25) && is_sign c
begins_with_sign _ = false

abbrev pub filling : ℕ → ℕ → List ℕ
filling sign value =
    if sign == 0x64 then signed_word value
    else if sign == 0x78 then word_digits value
    else label_words value

-- A text with the first value in the place of the first of these, and the second in that of each further one.
abbrev pub filled : List ℕ → ℕ → ℕ → List ℕ
filled [] first second = []
filled (b ∷ []) first second = shown (b ∷ [])
filled (b ∷ c ∷ more) first second =
    if (b == 0x25) && is_sign c then filling c first ++ filled more second second
    else shown (b ∷ []) ++ filled (c ∷ more) first second

-- `status 8001, values 2 and 0`
abbrev pub plain_words : StatusEntry → List ℕ
plain_words entry =
    codes "status " ++ word_digits entry.id ++ codes ", values " ++ signed_word entry.first
    ++ codes " and " ++ signed_word entry.second

-- by the text of the standard, by that of the fixture, or by its numbers
abbrev pub message_by : Option (List ℕ) → Option (List ℕ) → StatusEntry → List ℕ
message_by (Some text) description entry = filled text entry.first entry.second
message_by None (Some text) entry = filled text entry.first entry.second
message_by None None entry = plain_words entry

abbrev pub message_words : Option (List ℕ) → StatusEntry → List ℕ
message_words description entry = message_by (status_text entry.id) description entry

-- `warning cleared`, by table A-4, or `type 05`
abbrev pub severity_words : ℕ → List ℕ
severity_words status_type = name_or (codes "type ") (option_map severity_name (severity_in status_type)) (status_type ∷ [])

abbrev pub sub_words : ℕ → List ℕ
sub_words sub = if sub == 0 then codes "root" else decimal sub

-- a line of the table
abbrev pub line : Uid → List ℕ → List ℕ → List ℕ → List ℕ
line uid sub severity message = padded 13 (uid_word uid) ++ padded 4 sub ++ padded 16 severity ++ message ++ 0x0A ∷ []

abbrev pub status_heading : List ℕ
status_heading = codes "UID           Sub  Severity         Message\n"

-- The line of a status message.
abbrev pub status_line : StatusRow → List ℕ
status_line row = line row.uid (sub_words row.entry.sub) (severity_words row.entry.status_type) (message_words row.description row.entry)

-- 255 stands for as many and more. Section 6.2.8.
abbrev pub waiting_words : ℕ → List ℕ
waiting_words count =
    if count == 1 then codes "1 message waits"
    else if count == 255 then codes "255 messages or more wait"
    else decimal count ++ codes " messages wait"

-- The line of messages that wait in a fixture, if any do.
abbrev pub waiting_line : Uid → ℕ → List ℕ
waiting_line uid count = if count == 0 then [] else line uid untold untold (waiting_words count)

-- A lamp is off, on, striking or on standby. Section 10.8.4 and table A-8.
abbrev pub is_lamp_well : ℕ → Bool
is_lamp_well state = nat_le state 3

-- `lamp error`, or `lamp state 50`
abbrev pub lamp_words : ℕ → List ℕ
lamp_words state = codes "lamp " ++ name_or (codes "state ") (lamp_state state) (state ∷ [])

-- The line of a lamp, unless it is well.
abbrev pub lamp_line : Uid → ℕ → ℕ → List ℕ
lamp_line uid sub state = if is_lamp_well state then [] else line uid (sub_words sub) untold (lamp_words state)
