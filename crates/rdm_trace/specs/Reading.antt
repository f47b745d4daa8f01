-- How a line of a trace is read, as the code does it. More is read than is written: digits of either case, blanks between
-- the bytes of a reply, and the numbers of Numbers.antt. LineText.antt has what is written.
use Rattle.std.specs.Prelude.{ℕ, ◌+◌, ◌-◌, ◌*◌, Bool, true, false, ◌==◌, ◌&&◌, ◌||◌, if◌then◌else◌, List, [], ◌∷◌, length, slice_index, Option, Some, None, nat_le, codes}
use Rattle.std.specs.Int.{w16}
use Rattle.std.specs.Str.{bytes_eq}
use Rattle.std.specs.List.{before_first, after_first}
use Rattle.rdm_frame.specs.DigitReading.{◌>>=◌, byte_in, bytes_in, number_in, uid_in}
use Rattle.rdm_frame.specs.declared.message.Message.{Message as TheMessage}
use Rattle.rdm_frame.specs.Severities.{severity_in}
use Rattle.rdm_frame.specs.declared.fault.Fault.{Fault}
use Rattle.rdm_frame.specs.declared.fault.Fault.TheVariants as fault
use Rattle.rdm_commands.specs.declared.panel.Change.{Change}
use Rattle.rdm_commands.specs.declared.panel.Change.TheVariants.{Start, Personality, Label}
use Rattle.rdm_commands.specs.declared.jobs.outcome.Outcome.{Outcome}
use Rattle.rdm_commands.specs.declared.jobs.outcome.Outcome.TheVariants.{Done, Reading, Failed}
use Rattle.rdm_collector.specs.declared.transaction.Heard.{Heard as TheHeard}
use Rattle.rdm_collector.specs.declared.transaction.Heard.TheVariants as heard
use Rattle.rdm_trace.specs.declared.line.JobName.{JobName}
use Rattle.rdm_trace.specs.declared.line.Line.{Line}
use Rattle.rdm_trace.specs.declared.line.Line.TheVariants.{Send, Reply, Job, Heard, Found, Arrive, Panel, Message, Time, End}
use Rattle.rdm_trace.specs.Numbers.{number_up_to, signed_in}

-- ---- words

-- what stands before the first space
unfoldable pub first_word : List ℕ → List ℕ
first_word line = before_first (λ b. b == 32) line

-- what stands behind it
unfoldable pub behind_word : List ℕ → List ℕ
behind_word line = after_first (λ b. b == 32) line

-- ---- bytes

-- if there are at most N
abbrev pub up_to : ℕ → Option (List ℕ) → Option (List ℕ)
up_to most read = do
  bytes ← read
  if nat_le (length bytes) most then Some bytes else None

-- at most N bytes, two digits for each, and blanks between them
abbrev pub spaced_bytes : ℕ → List ℕ → Option (List ℕ)
spaced_bytes room [] = Some []
spaced_bytes room (b ∷ []) = if (b == 32) || (b == 9) then Some [] else None
spaced_bytes room (b ∷ low ∷ more) =
    if (b == 32) || (b == 9) then spaced_bytes room (low ∷ more)
    else (if room == 0 then None
    else (byte_in b low >>= λ byte. spaced_bytes (room - 1) more >>= λ bytes. Some (byte ∷ bytes)))

-- the bytes of a frame: one to 257
unfoldable pub wire_in : List ℕ → Option (List ℕ)
wire_in text = do
  bytes ← spaced_bytes 257 text
  if length bytes == 0 then None else Some bytes

-- the byte that two digits spell
unfoldable pub code_in : List ℕ → Option ℕ
code_in (high ∷ low ∷ []) = byte_in high low
code_in other = None

-- a hyphen for no data, or the digits of at most 231 bytes
unfoldable pub body_in : List ℕ → Option (List ℕ)
body_in word = if bytes_eq word (codes "-") then Some [] else (if nat_le (length word) 462 then up_to 231 (bytes_in word) else None)

-- ---- a transaction

abbrev pub lost_in : List ℕ → Option Fault
lost_in name =
    if length name == 0 then Some fault.None
    else (if bytes_eq name (codes "lost-request") then Some fault.LostRequest
    else (if bytes_eq name (codes "lost-reply") then Some fault.LostReply
    else None))

abbrev pub altered : List ℕ → ℕ → ℕ → Option Fault
altered name k x =
    if bytes_eq name (codes "bad-request") then Some (fault.BadRequest k x)
    else (if bytes_eq name (codes "bad-reply") then Some (fault.BadReply k x)
    else None)

-- a slot, and by how much it is raised
unfoldable pub altered_in : List ℕ → List ℕ → Option Fault
altered_in name words = do
  k ← number_up_to 65535 (first_word words)
  x ← number_up_to 255 (behind_word words)
  altered name k x

-- what goes wrong: nothing if there is no word
unfoldable pub fault_in : List ℕ → Option Fault
fault_in words = if length (behind_word words) == 0 then lost_in (first_word words) else altered_in (first_word words) (behind_word words)

unfoldable pub request_in : List ℕ → Option Line
request_in words = do
  bytes ← wire_in (first_word words)
  f ← fault_in (behind_word words)
  Some (Send bytes f)

unfoldable pub reply_in : List ℕ → Option Line
reply_in words = if bytes_eq words (codes "none") then Some (Reply None) else (wire_in words >>= λ bytes. Some (Reply (Some bytes)))

abbrev pub heard_in : List ℕ → Option (Option TheHeard)
heard_in word =
    if bytes_eq word (codes "message") then Some (Some heard.Message)
    else (if bytes_eq word (codes "reply") then Some (Some heard.Reply)
    else (if bytes_eq word (codes "ignored") then Some (Some heard.Ignored)
    else (if bytes_eq word (codes "nothing") then Some None
    else None)))

-- ---- a job

unfoldable pub job_of : List ℕ → List ℕ → Option JobName
job_of worker number = do
  w ← number_up_to 255 worker
  n ← number_up_to 4294967295 number
  Some (record { worker = w; number = n })

unfoldable pub job_in : List ℕ → Option JobName
job_in words = job_of (first_word words) (behind_word words)

-- a status entry: its severity, its ID and its two values
unfoldable pub failed_in : List ℕ → Option Outcome
failed_in words = do
  code ← code_in (first_word words)
  s ← severity_in code
  id ← number_in w16 (first_word (behind_word words))
  first ← number_in w16 (first_word (behind_word (behind_word words)))
  second ← number_in w16 (behind_word (behind_word (behind_word words)))
  Some (Failed s id first second)

unfoldable pub outcome_in : List ℕ → Option Outcome
outcome_in words =
    if bytes_eq (first_word words) (codes "done") then (if length (behind_word words) == 0 then Some Done else None)
    else (if bytes_eq (first_word words) (codes "reading") then (signed_in (behind_word words) >>= λ value. Some (Reading value))
    else (if bytes_eq (first_word words) (codes "failed") then failed_in (behind_word words)
    else None))

unfoldable pub report_in : List ℕ → Option Line
report_in words = do
  job ← job_of (first_word words) (first_word (behind_word words))
  outcome ← outcome_in (behind_word (behind_word words))
  Some (Arrive job outcome)

-- ---- a change at the device's menu

unfoldable pub label_in : List ℕ → Option Change
label_in value = do
  text ← up_to 32 (body_in value)
  Some (Label text)

unfoldable pub change_in : List ℕ → List ℕ → Option Change
change_in name value =
    if bytes_eq name (codes "start") then (number_up_to 65535 value >>= λ start. Some (Start start))
    else (if bytes_eq name (codes "personality") then (number_up_to 255 value >>= λ number. Some (Personality number))
    else (if bytes_eq name (codes "label") then label_in value
    else None))

abbrev pub refused_in : List ℕ → Option Bool
refused_in words = if length words == 0 then Some false else (if bytes_eq words (codes "refused") then Some true else None)

unfoldable pub panel_in : List ℕ → Option Line
panel_in words = do
  refused ← refused_in (behind_word (behind_word words))
  change ← change_in (first_word words) (first_word (behind_word words))
  Some (Panel change refused)

-- ---- a line

-- a message: its command class, parameter ID, sub-device and data
unfoldable pub message_in : List ℕ → Option TheMessage
message_in words = do
  class ← code_in (first_word words)
  pid ← number_in w16 (first_word (behind_word words))
  sub ← number_in w16 (first_word (behind_word (behind_word words)))
  body ← body_in (behind_word (behind_word (behind_word words)))
  Some (record { class = class; pid = pid; sub = sub; body = body })

-- ---- a time

-- what stands before the point of a number
unfoldable pub before_point : List ℕ → List ℕ
before_point number = before_first (λ b. b == 46) number

-- what stands behind it
unfoldable pub behind_point : List ℕ → List ℕ
behind_point number = after_first (λ b. b == 46) number

-- the number that a decimal digit stands for
abbrev pub figure_in : ℕ → Option ℕ
figure_in digit = if nat_le 48 digit && nat_le digit 57 then Some (digit - 48) else None

-- three decimal digits
unfoldable pub thousandths_in : List ℕ → Option ℕ
thousandths_in digits =
    if length digits == 3
    then (figure_in (slice_index digits 0) >>= λ hundreds. figure_in (slice_index digits 1) >>= λ tens. figure_in (slice_index digits 2) >>= λ ones.
    Some (hundreds * 100 + tens * 10 + ones)) else None

-- seconds with three digits behind the point, as milliseconds
unfoldable pub seconds_in : List ℕ → Option ℕ
seconds_in number = do
  seconds ← number_up_to 4294967295 (before_point number)
  thousandths ← thousandths_in (behind_point number)
  Some (seconds * 1000 + thousandths)

-- a time: seconds, and their sign
unfoldable pub time_in : List ℕ → Option Line
time_in words = if bytes_eq (behind_word words) (codes "s") then (seconds_in (first_word words) >>= λ millis. Some (Time millis)) else None

-- what a line that tells of no transaction says
unfoldable pub told_by : List ℕ → List ℕ → Option Line
told_by word rest =
    if bytes_eq word (codes "arrive") then report_in rest
    else (if bytes_eq word (codes "panel") then panel_in rest
    else (if bytes_eq word (codes "message") then (message_in rest >>= λ m. Some (Message m))
    else (if bytes_eq word (codes "#") then time_in rest
    else (if bytes_eq word (codes "end") && (length rest == 0) then Some End
    else None))))

-- what a line says by its first word and the rest
unfoldable pub said_by : List ℕ → List ℕ → Option Line
said_by word rest =
    if bytes_eq word (codes "send") then request_in rest
    else (if bytes_eq word (codes "reply") then reply_in rest
    else (if bytes_eq word (codes "job") then (job_in rest >>= λ job. Some (Job job))
    else (if bytes_eq word (codes "heard") then (heard_in rest >>= λ heard. Some (Heard heard))
    else (if bytes_eq word (codes "found") then (uid_in rest >>= λ uid. Some (Found uid))
    else told_by word rest))))

-- What a line says, or nothing if it isn't a line of a trace.
unfoldable pub line_in : List ℕ → Option Line
line_in text = said_by (first_word text) (behind_word text)
