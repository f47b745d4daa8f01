-- The packets of a trace can be written, and so they are read back.
use Rattle.std.specs.Prelude.{ℕ, ◌+◌, ◌%◌, ◌≤◌, ◌==◌, Bool, true, false, if◌then◌else◌, List, [], ◌∷◌, ◌++◌, length, map, slice_index, Some, None}
use Rattle.std.proofs.Common.{arith}
use Rattle.std.proofs.lemmas.List.{length-set}
use Rattle.std.specs.List.{AllByRecursion}
use Rattle.rdm_frame.specs.declared.fault.Fault.{Fault}
use Rattle.rdm_frame.specs.declared.fault.Fault.TheVariants as fault
use Rattle.rdm_frame.specs.Faults.{reply_heard, altered}
use Rattle.rdm_trace.specs.declared.line.Line.{Line}
use Rattle.rdm_trace.specs.declared.line.Line.TheVariants.{Send, Reply, Job, Heard, Found, Arrive, Panel, Message, Time, End}
use Rattle.rdm_trace.specs.LineText.{IsLine}
use Rattle.rdm_capture.specs.declared.moment.Moment.{Moment}
use Rattle.rdm_capture.specs.declared.packet.Direction.{Direction}
use Rattle.rdm_capture.specs.declared.packet.Direction.TheVariants.{Inbound, Outbound}
use Rattle.rdm_capture.specs.Captures.{HasPackets}
use Rattle.rdm_capture.specs.Traces.{message_of, after, sent_at, heard_at, packets_at, packets_from, packets_of, first_moment}
use Rattle.rdm_capture.specs.Written.{Sent, Fits, file, seen_again}
use Rattle.rdm_capture.proofs.Written.{file_again}

all_append : (P : Sent → Type 0) (one other : List Sent) → AllByRecursion P one → AllByRecursion P other → AllByRecursion P (one ++ other)
all_append P [] other front behind = behind
all_append P (p ∷ ps) other front behind = (front.0, all_append P ps other front.1 behind)

-- bytes of a frame
abbrev Short : List ℕ → Type 0
Short bytes = length bytes ≤ 257

one_fits : (moment : Moment) (direction : Direction) (message : List ℕ) → Short message → AllByRecursion Fits (sent_at moment direction (Some message))
one_fits moment direction message short = (record { time = omega arith; message = omega (arith, short) }, tt)

behind_start : (moment : Moment) (direction : Direction) (b : ℕ) (t : List ℕ) → Short (b ∷ t) → (start sub : Bool)
    → AllByRecursion Fits (sent_at moment direction (if start then Some t else if sub then Some (b ∷ t) else None))
behind_start moment direction b t short true sub = one_fits moment direction t (omega (arith, short))
behind_start moment direction b t short false true = one_fits moment direction (b ∷ t) short
behind_start moment direction b t short false false = tt

frame_fits : (moment : Moment) (direction : Direction) (bytes : List ℕ) → Short bytes → AllByRecursion Fits (sent_at moment direction (message_of bytes))
frame_fits moment direction [] short = tt
frame_fits moment direction (b ∷ t) short = behind_start moment direction b t short (b == 0xCC) (b == 1)

heard_fits : (moment : Moment) (f : Fault) (bytes : List ℕ) → Short bytes → AllByRecursion Fits (heard_at moment (reply_heard f bytes))
heard_fits moment fault.None bytes short = frame_fits moment Inbound bytes short
heard_fits moment fault.LostRequest bytes short = frame_fits moment Inbound bytes short
heard_fits moment fault.LostReply bytes short = tt
heard_fits moment (fault.BadRequest k x) bytes short = frame_fits moment Inbound bytes short
heard_fits moment (fault.BadReply k x) bytes short =
    frame_fits moment Inbound (altered bytes k x)
    (omega (arith, short, length-set bytes (k % length bytes) ((slice_index bytes (k % length bytes) + x) % 256)))

line_fits : (moment : Moment) (line : Line) → IsLine line → AllByRecursion Fits (packets_at moment line)
unfolding packets_at
line_fits moment (Send bytes f) is = frame_fits moment Outbound bytes is.0.within.room
line_fits moment (Reply None) is = tt
line_fits moment (Reply (Some bytes)) is = heard_fits moment moment.fault bytes is.within.room
line_fits moment (Job job) is = tt
line_fits moment (Heard heard) is = tt
line_fits moment (Found uid) is = tt
line_fits moment (Arrive job outcome) is = tt
line_fits moment (Panel change refused) is = tt
line_fits moment (Message message) is = tt
line_fits moment (Time millis) is = tt
line_fits moment End is = tt

lines_fit : (moment : Moment) (lines : List Line) → AllByRecursion IsLine lines → AllByRecursion Fits (packets_from moment lines)
lines_fit moment [] are = tt
lines_fit moment (line ∷ lines) are =
    all_append Fits (packets_at moment line) (packets_from (after line moment) lines) (line_fits moment line are.0) (lines_fit (after line moment) lines are.1)

pub capture_again : (lines : List Line) → AllByRecursion IsLine lines → HasPackets (file (packets_of lines)) (map seen_again (packets_of lines)) None
capture_again lines are = file_again (packets_of lines) (lines_fit first_moment lines are)
