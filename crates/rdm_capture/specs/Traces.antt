-- The packets of a trace, as the interface of the controller sends and hears them; and packets as a trace.
use Rattle.std.specs.Prelude.{ℕ, ◌-◌, ◌*◌, ◌/◌, ◌%◌, ◌^◌, ◌==◌, min, Bool, false, List, [], ◌∷◌, ◌++◌, length, nat_lt, slice_get, Option, Some, None, unwrap_or, codes, if◌then◌else◌}
use Rattle.std.specs.List.{flat_map}
use Rattle.rdm_frame.specs.declared.fault.Fault.TheVariants as fault
use Rattle.rdm_frame.specs.Digits.{digits}
use Rattle.rdm_frame.specs.Faults.{reply_heard}
use Rattle.rdm_trace.specs.declared.line.Line.{Line}
use Rattle.rdm_trace.specs.declared.line.Line.TheVariants.{Send, Reply, Job, Heard, Found, Arrive, Panel, Message, Time, End}
use Rattle.rdm_trace.specs.LineText.{whole_line}
use Rattle.rdm_capture.specs.declared.moment.Moment.{Moment}
use Rattle.rdm_capture.specs.declared.packet.Direction.{Direction}
use Rattle.rdm_capture.specs.declared.packet.Direction.TheVariants.{Inbound, Outbound}
use Rattle.rdm_capture.specs.Packets.{Seen}
use Rattle.rdm_capture.specs.Written.{Sent}

-- ---- the packets of a trace

-- The slots behind the START code 0xCC, which a frame from Art-Net lacks: then it begins with the sub-START code 1 (E1.20 sections 6.2.1
-- and 6.2.2). Other bytes are no packet. So the answer to DISC_UNIQUE_BRANCH isn't one, which has no START code (section 7.5).
abbrev pub message_of : List ℕ → Option (List ℕ)
message_of [] = None
message_of (b ∷ t) = if b == 0xCC then Some t else if b == 1 then Some (b ∷ t) else None

-- It is a response: its command class, the slot behind 19 others, is odd (E1.20 section 6.2.10, table A-1).
abbrev pub is_response : List ℕ → Bool
is_response message = elim (slice_get message 19) [ Some class ↦ class % 2 == 1 | None ↦ false ]

-- so many milliseconds, in nanoseconds: at most 2 ^ 64 - 1
abbrev pub nanoseconds_of : ℕ → ℕ
nanoseconds_of millis = min (millis * 1000000) (2 ^ 64 - 1)

-- in front of the first line: no time has passed, and nothing goes wrong
abbrev pub first_moment : Moment
first_moment = record { millis = 0; fault = fault.None }

-- behind a line: a time counts up to the next one, and what goes wrong up to the next request
unfoldable pub after : Line → Moment → Moment
after (Send bytes f) moment = record { millis = moment.millis; fault = f }
after (Reply reply) moment = moment
after (Job job) moment = moment
after (Heard heard) moment = moment
after (Found uid) moment = moment
after (Arrive job outcome) moment = moment
after (Panel change refused) moment = moment
after (Message message) moment = moment
after (Time millis) moment = record { millis = millis; fault = moment.fault }
after End moment = moment

-- the packet of these bytes, if they are one
abbrev pub sent_at : Moment → Direction → Option (List ℕ) → List Sent
sent_at moment direction None = []
sent_at moment direction (Some message) = record { time = nanoseconds_of moment.millis; direction = direction; message = message } ∷ []

-- a reply as the controller hears it, if it does
abbrev pub heard_at : Moment → Option (List ℕ) → List Sent
heard_at moment None = []
heard_at moment (Some bytes) = sent_at moment Inbound (message_of bytes)

-- The packet of a line, if it has one: a request as the controller sent it, or a reply as the controller heard it.
unfoldable pub packets_at : Moment → Line → List Sent
packets_at moment (Send bytes f) = sent_at moment Outbound (message_of bytes)
packets_at moment (Reply None) = []
packets_at moment (Reply (Some bytes)) = heard_at moment (reply_heard moment.fault bytes)
packets_at moment (Job job) = []
packets_at moment (Heard heard) = []
packets_at moment (Found uid) = []
packets_at moment (Arrive job outcome) = []
packets_at moment (Panel change refused) = []
packets_at moment (Message message) = []
packets_at moment (Time millis) = []
packets_at moment End = []

-- the packets of lines, in order, from a moment on
abbrev pub packets_from : Moment → List Line → List Sent
packets_from moment [] = []
packets_from moment (line ∷ lines) = packets_at moment line ++ packets_from (after line moment) lines

-- The packets of a trace.
abbrev pub packets_of : List Line → List Sent
packets_of lines = packets_from first_moment lines

-- ---- other packets

-- the packet of a frame of which nothing says who sent it: a response is a reply
abbrev pub bare_at : Moment → List ℕ → List Sent
bare_at moment bytes = elim (message_of bytes) [
  | Some message ↦ sent_at moment (if is_response message then Inbound else Outbound) (Some message)
  | None ↦ []
]

-- a packet of a capture, as it is written again: one without a time has the time 0, and one of more than 65,535 slots is left out
abbrev pub sent_again : Seen → List Sent
sent_again p = if nat_lt (length p.message) (2 ^ 16) then record { time = unwrap_or p.time 0; direction = p.direction; message = p.message } ∷ [] else []

-- ---- the trace of packets

-- the time of the first packet that has one
abbrev pub start_of_times : List Seen → ℕ
start_of_times [] = 0
start_of_times (p ∷ packets) = elim p.time [ Some time ↦ time | None ↦ start_of_times packets ]

-- the time of a packet since then, if it has one
abbrev pub time_text : ℕ → Option ℕ → List ℕ
time_text start None = []
time_text start (Some time) = whole_line (Time ((time - start) / 1000000))

-- a request, or a reply
abbrev pub frame_text : List ℕ → List ℕ
frame_text message = (if is_response message then codes "reply CC" else codes "send CC") ++ digits message ++ 10 ∷ []

abbrev pub packet_text : ℕ → Seen → List ℕ
packet_text start p = time_text start p.time ++ frame_text p.message

-- The trace of packets: their times, from the first one on, and their frames.
abbrev pub trace_text : List Seen → List ℕ
trace_text packets = flat_map (packet_text (start_of_times packets)) packets
