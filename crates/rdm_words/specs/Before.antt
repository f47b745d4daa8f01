-- What the lines before one say of it: which fixture it tells of, if it names none, and which reply it speaks of.
use Rattle.std.specs.Prelude.{ℕ, Bool, ◌==◌, ◌&&◌, if◌then◌else◌, List, Option, Some, None, is_some}
use Rattle.rdm_frame.specs.declared.frame.Frame.{Frame}
use Rattle.rdm_frame.specs.declared.uid.Uid.{Uid}
use Rattle.rdm_frame.specs.Addressing.{is_broadcast}
use Rattle.rdm_frame.specs.Discovery.{IsBranchReply}
use Rattle.rdm_frame.specs.FrameText.{IsUid}
use Rattle.rdm_frame.specs.Reading.{frame_in}
use Rattle.rdm_trace.specs.declared.line.Line.{Line}
use Rattle.rdm_trace.specs.declared.line.Line.TheVariants.{Send, Reply, Job, Heard, Found, Arrive, Panel, Message, Time, End}
use Rattle.rdm_words.specs.declared.before.Before.{Before}

-- nothing went before the first line
abbrev pub before_all : Before
before_all = record { polled = None; asked = None; reply = None }

-- a request for the next message: a GET of QUEUED_MESSAGE. E1.20 section 10.3.1.
abbrev pub is_poll : Frame → Bool
is_poll f = (f.class == 0x20) && (f.pid == 0x0020)

-- behind a request to one device, which is asked, and polled if it is a poll
abbrev pub with_frame : Option Frame → Before → Before
with_frame None before = record { polled = before.polled; asked = before.asked; reply = None }
with_frame (Some f) before =
    if is_broadcast f.dst then record { polled = before.polled; asked = before.asked; reply = None }
    else record { polled = if is_poll f then Some f.dst else before.polled; asked = Some f.dst; reply = None }

abbrev pub with_request : List ℕ → Before → Before
with_request bytes before = with_frame (frame_in bytes) before

-- what went before the line that follows this one
unfoldable pub after : Line → Before → Before
after (Send bytes fault) before = with_request bytes before
after (Reply reply) before = record { polled = before.polled; asked = before.asked; reply = reply }
after (Job job) before = before
after (Heard heard) before = before
after (Found uid) before = before
after (Arrive job outcome) before = before
after (Panel change refused) before = before
after (Message message) before = before
after (Time millis) before = before
after End before = before

-- The fixture of a line that names none: the one that was polled last, or, where none was polled, the one that was asked last.
abbrev pub fixture_of : Before → Option Uid
fixture_of before = if is_some before.polled then before.polled else before.asked

-- these bytes are how a device with this UID answers DISC_UNIQUE_BRANCH
abbrev pub IsAnswerOf : Uid → List ℕ → Type 0
IsAnswerOf uid bytes = IsUid uid × IsBranchReply uid bytes

-- the last reply is
abbrev pub IsAnswerIn : Option (List ℕ) → Uid → Type 0
IsAnswerIn None uid = ⊥
IsAnswerIn (Some bytes) uid = IsAnswerOf uid bytes
