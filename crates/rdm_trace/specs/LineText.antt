-- The text of a line of a trace, without its line end, and what a line can hold.
use Rattle.std.specs.Prelude.{ℕ, ◌+◌, ◌/◌, ◌%◌, ◌<◌, ◌≤◌, ◌^◌, Bool, true, false, List, [], ◌∷◌, ◌++◌, length, Option, Some, None, codes, decimal}
use Rattle.std.specs.Fmt.{signed_decimal}
use Rattle.std.specs.Int.{w16, to_be_bytes}
use Rattle.std.specs.Int.RustNames.{FitsSigned}
use Rattle.std.specs.List.{AllByRecursion, flat_map}
use Rattle.rdm_frame.specs.FrameText.{IsUid}
use Rattle.rdm_frame.specs.Digits.{digits}
use Rattle.rdm_frame.specs.UidText.{uid_text}
use Rattle.rdm_frame.specs.declared.status.Severity.{Severity}
use Rattle.rdm_frame.specs.Severities.{severity_code}
use Rattle.rdm_frame.specs.declared.fault.Fault.{Fault}
use Rattle.rdm_frame.specs.declared.fault.Fault.TheVariants as fault
use Rattle.rdm_commands.specs.declared.panel.Change.{Change}
use Rattle.rdm_commands.specs.declared.panel.Change.TheVariants.{Start, Personality, Label}
use Rattle.rdm_commands.specs.declared.jobs.outcome.Outcome.{Outcome}
use Rattle.rdm_commands.specs.declared.jobs.outcome.Outcome.TheVariants.{Done, Reading, Failed}
use Rattle.rdm_collector.specs.declared.transaction.Heard.{Heard as TheHeard}
use Rattle.rdm_collector.specs.declared.transaction.Heard.TheVariants as heard
use Rattle.rdm_trace.specs.declared.line.JobName.{JobName}
use Rattle.rdm_trace.specs.declared.line.Line.{Line}
use Rattle.rdm_trace.specs.declared.line.Line.TheVariants.{Send, Reply, Job, Heard, Found, Arrive, Panel, Message, Time, End}

-- four digits for a number of 16 bits, most significant byte first
abbrev pub word_digits : ℕ → List ℕ
word_digits n = digits (to_be_bytes w16 n)

-- two numbers
abbrev pub pair_words : ℕ → ℕ → List ℕ
pair_words n m = decimal n ++ 32 ∷ decimal m

-- bytes, or a hyphen if there are none
abbrev pub data_words : List ℕ → List ℕ
data_words [] = codes "-"
data_words (byte ∷ bytes) = digits (byte ∷ bytes)

-- ---- a transaction

-- what goes wrong, in the words of a script, with a space in front
abbrev pub fault_words : Fault → List ℕ
fault_words fault.None = []
fault_words fault.LostRequest = codes " lost-request"
fault_words fault.LostReply = codes " lost-reply"
fault_words (fault.BadRequest k x) = codes " bad-request " ++ pair_words k x
fault_words (fault.BadReply k x) = codes " bad-reply " ++ pair_words k x

abbrev pub reply_words : Option (List ℕ) → List ℕ
reply_words None = codes "none"
reply_words (Some bytes) = digits bytes

-- a job: its worker and its number
abbrev pub job_words : JobName → List ℕ
job_words job = pair_words job.worker job.number

abbrev pub heard_word : Option TheHeard → List ℕ
heard_word None = codes "nothing"
heard_word (Some heard.Message) = codes "message"
heard_word (Some heard.Reply) = codes "reply"
heard_word (Some heard.Ignored) = codes "ignored"

-- ---- a report

-- a status entry: its severity, its ID and its two values
abbrev pub status_words : Severity → ℕ → ℕ → ℕ → List ℕ
status_words severity id v1 v2 = digits (severity_code severity ∷ []) ++ 32 ∷ word_digits id ++ 32 ∷ word_digits v1 ++ 32 ∷ word_digits v2

-- how a job ended, with a space in front
abbrev pub outcome_words : Outcome → List ℕ
outcome_words Done = codes " done"
outcome_words (Reading v) = codes " reading " ++ signed_decimal v
outcome_words (Failed severity id v1 v2) = codes " failed " ++ status_words severity id v1 v2

-- ---- a change at the device's menu

-- what is changed, and to which value
abbrev pub change_words : Change → List ℕ
change_words (Start start) = codes "start " ++ decimal start
change_words (Personality number) = codes "personality " ++ decimal number
change_words (Label label) = codes "label " ++ data_words label

-- a change that is refused, with a space in front
abbrev pub refused_words : Bool → List ℕ
refused_words true = codes " refused"
refused_words false = []

-- ---- a time

-- three decimal digits of a number below 1,000
abbrev pub three_figures : ℕ → List ℕ
three_figures n = (48 + n / 100) ∷ (48 + n / 10 % 10) ∷ (48 + n % 10) ∷ []

-- seconds, a point and thousandths
abbrev pub seconds_words : ℕ → List ℕ
seconds_words millis = decimal (millis / 1000) ++ 46 ∷ three_figures (millis % 1000)

-- ---- a line

-- The text of a line. A request has its bytes and what goes wrong; a message its command class, parameter ID, sub-device
-- and data.
unfoldable pub line_text : Line → List ℕ
line_text (Send bytes fault) = codes "send " ++ digits bytes ++ fault_words fault
line_text (Reply reply) = codes "reply " ++ reply_words reply
line_text (Job job) = codes "job " ++ job_words job
line_text (Heard heard) = codes "heard " ++ heard_word heard
line_text (Found uid) = codes "found " ++ uid_text uid
line_text (Arrive job outcome) = codes "arrive " ++ job_words job ++ outcome_words outcome
line_text (Panel change refused) = codes "panel " ++ change_words change ++ refused_words refused
line_text (Message m) = codes "message " ++ digits (m.class ∷ []) ++ 32 ∷ word_digits m.pid ++ 32 ∷ word_digits m.sub ++ 32 ∷ data_words m.body
line_text (Time millis) = codes "# " ++ seconds_words millis ++ codes " s"
line_text End = codes "end"

-- a line with its line end
abbrev pub whole_line : Line → List ℕ
whole_line line = line_text line ++ 10 ∷ []

-- The text of a trace: its lines in order.
abbrev pub lines_text : List Line → List ℕ
lines_text lines = flat_map whole_line lines

-- ---- what a line can hold: numbers of the width of their types, and at least one byte in a frame

-- at most N numbers, each below 256
pub record IsBytes (most : ℕ) (bytes : List ℕ) : Type 0 where
  pub room : length bytes ≤ most
  pub fits : AllByRecursion (λ byte. byte < 256) bytes

-- the bytes of a frame, and at least one
pub record IsWire (bytes : List ℕ) : Type 0 where
  pub some : 0 < length bytes
  pub within : IsBytes 257 bytes

abbrev pub IsFault : Fault → Type 0
IsFault fault.None = Unit {0}
IsFault fault.LostRequest = Unit {0}
IsFault fault.LostReply = Unit {0}
IsFault (fault.BadRequest k x) = (k < 2 ^ 16) × (x < 2 ^ 8)
IsFault (fault.BadReply k x) = (k < 2 ^ 16) × (x < 2 ^ 8)

abbrev pub IsJob : JobName → Type 0
IsJob job = (job.worker < 2 ^ 8) × (job.number < 2 ^ 32)

abbrev pub IsOutcome : Outcome → Type 0
IsOutcome Done = Unit {0}
IsOutcome (Reading v) = FitsSigned w16 v
IsOutcome (Failed severity id v1 v2) = (id < 2 ^ 16) × (v1 < 2 ^ 16) × (v2 < 2 ^ 16)

abbrev pub IsChange : Change → Type 0
IsChange (Start start) = start < 2 ^ 16
IsChange (Personality number) = number < 2 ^ 8
IsChange (Label label) = IsBytes 32 label

abbrev pub IsLine : Line → Type 0
IsLine (Send bytes fault) = IsWire bytes × IsFault fault
IsLine (Reply None) = Unit {0}
IsLine (Reply (Some bytes)) = IsWire bytes
IsLine (Job job) = IsJob job
IsLine (Heard heard) = Unit {0}
IsLine (Found uid) = IsUid uid
IsLine (Arrive job outcome) = IsJob job × IsOutcome outcome
IsLine (Panel change refused) = IsChange change
IsLine (Message m) = (m.class < 2 ^ 8) × (m.pid < 2 ^ 16) × (m.sub < 2 ^ 16) × IsBytes 231 m.body
IsLine (Time millis) = millis < 4294967296000
IsLine End = Unit {0}
