-- The words that are fixed: those of bytes that aren't a frame, which nothing interprets, and of lines of a trace that hold none.
use Rattle.std.specs.Prelude.{◌≡◌, ◌≢◌, ◌⊎◌, ℕ, ◌/◌, ◌%◌, Bool, true, ◌==◌, ◌&&◌, nat_le, nat_lt, if◌then◌else◌, length, slice_index, List, [], ◌∷◌, ◌++◌, Option, Some, None, codes, decimal}
use Rattle.rdm_frame.specs.declared.decoding.FrameError.{FrameError}
use Rattle.rdm_frame.specs.declared.decoding.FrameError.TheVariants.{Short, Start, SubStart, Length, Pdl, Checksum}
use Rattle.rdm_frame.specs.declared.uid.Uid.{Uid}
use Rattle.rdm_frame.specs.Digits.{digits}
use Rattle.rdm_frame.specs.Reading.{IsFirstFault}
use Rattle.rdm_frame.specs.UidText.{uid_text}
use Rattle.rdm_frame.specs.declared.fault.Fault.{Fault}
use Rattle.rdm_frame.specs.declared.fault.Fault.TheVariants as fault
use Rattle.rdm_collector.specs.declared.transaction.Heard.{Heard as TheHeard}
use Rattle.rdm_collector.specs.declared.transaction.Heard.TheVariants as heard
use Rattle.rdm_trace.specs.declared.line.Line.{Line}
use Rattle.rdm_words.specs.Before.{IsAnswerOf, IsAnswerIn}
use Rattle.rdm_words.specs.declared.before.Before.{Before}
use Rattle.rdm_trace.specs.declared.line.Line.TheVariants.{Send, Reply, Job, Heard, Found, Arrive, Panel, Message, Time, End}

-- ---- bytes

-- why bytes aren't a frame
abbrev pub cause_words : FrameError → List ℕ
cause_words Short = codes "fewer bytes than the shortest frame"
cause_words Start = codes "wrong START code"
cause_words SubStart = codes "wrong sub-START code"
cause_words Length = codes "the message length doesn't match the number of bytes"
cause_words Pdl = codes "the parameter data length doesn't match the message length"
cause_words Checksum = codes "wrong checksum"

-- bytes that aren't a frame: why, and all of their digits
abbrev pub stray_words : FrameError → List ℕ → List ℕ
stray_words cause bytes = codes "no frame (" ++ cause_words cause ++ codes "): " ++ digits bytes

-- who answers DISC_UNIQUE_BRANCH
abbrev pub answer_words : Uid → List ℕ
answer_words uid = uid_text uid ++ codes " answers: DISC_UNIQUE_BRANCH"

-- the bytes aren't a frame, for this reason, and nobody's answer
abbrev pub IsStray : FrameError → List ℕ → Type 0
IsStray cause bytes = IsFirstFault cause bytes × ((uid : Uid) → IsAnswerOf uid bytes → ⊥)

-- The bytes begin at the sub-START code, as Art-Net carries frames, and there is room for the START code.
abbrev pub has_no_start : List ℕ → Bool
has_no_start bytes = nat_lt 0 (length bytes) && ((slice_index bytes 0 == 0x01) && nat_lt (length bytes) 257)

-- the bytes with their START code
abbrev pub with_start : List ℕ → List ℕ
with_start bytes = if has_no_start bytes then 0xCC ∷ bytes else bytes

-- A frame's header can be read, be the frame valid or not: it has its 24 slots, and begins with the two codes. E1.20 section 6.2.
abbrev pub is_readable : List ℕ → Bool
is_readable bytes = nat_le 24 (length bytes) && ((slice_index bytes 0 == 0xCC) && (slice_index bytes 1 == 0x01))

-- The words of bytes that aren't a frame, nor can be read as one all the same. Those of a frame aren't fixed here.
abbrev pub AreWordsOfWhole : List ℕ → List ℕ → Type 0
AreWordsOfWhole bytes words =
    ((cause : FrameError) × IsStray cause bytes × (is_readable bytes ≢ true) × (words ≡ stray_words cause bytes))
    ⊎ ((uid : Uid) × IsAnswerOf uid bytes × (words ≡ answer_words uid))

-- The same of bytes from the bus, which may lack their START code.
abbrev pub AreWordsOfBytes : List ℕ → List ℕ → Type 0
AreWordsOfBytes bytes words = AreWordsOfWhole (with_start bytes) words

-- ---- lines of a trace

-- a slot that is raised, of the request or of the reply
abbrev pub raised_words : ℕ → List ℕ → ℕ → List ℕ
raised_words slot of raise = 10 ∷ codes "  fault: slot " ++ (decimal slot ++ (codes " of the " ++ (of ++ (codes " is raised by " ++ decimal raise))))

-- what goes wrong with a transaction, on a line of its own
abbrev pub fault_line : Fault → List ℕ
fault_line fault.None = []
fault_line fault.LostRequest = 10 ∷ codes "  fault: the request is lost"
fault_line fault.LostReply = 10 ∷ codes "  fault: the reply is lost"
fault_line (fault.BadRequest slot raise) = raised_words slot (codes "request") raise
fault_line (fault.BadReply slot raise) = raised_words slot (codes "reply") raise

-- what the controller took a reply for
abbrev pub heard_words : Option TheHeard → List ℕ
heard_words (Some heard.Message) = codes "the controller records the message"
heard_words (Some heard.Reply) = codes "the controller has its reply"
heard_words (Some heard.Ignored) = codes "the controller ignores what it hears"
heard_words None = codes "the controller hears nothing"

-- the controller hears a device that isn't muted, which is no reply to a command
abbrev pub answerer_words : Uid → List ℕ
answerer_words uid = codes "the controller hears the answer of " ++ uid_text uid

-- the words of what the controller took the last reply for
abbrev pub AreWordsOfHeard : Option (List ℕ) → Option TheHeard → List ℕ → Type 0
AreWordsOfHeard reply (Some heard.Ignored) words =
    ((uid : Uid) × IsAnswerIn reply uid × (words ≡ answerer_words uid))
    ⊎ (((uid : Uid) → IsAnswerIn reply uid → ⊥) × (words ≡ heard_words (Some heard.Ignored)))
AreWordsOfHeard reply (Some heard.Message) words = words ≡ heard_words (Some heard.Message)
AreWordsOfHeard reply (Some heard.Reply) words = words ≡ heard_words (Some heard.Reply)
AreWordsOfHeard reply None words = words ≡ heard_words None

-- which fixture the controller finds
abbrev pub found_words : Uid → List ℕ
found_words uid = codes "the controller finds " ++ uid_text uid

-- which job, by its worker and its number
abbrev pub job_words : ℕ → ℕ → List ℕ
job_words worker number = codes "job " ++ (decimal number ++ (codes " of worker " ++ decimal worker))

-- when the next line happened: seconds, with three digits behind the point
abbrev pub time_words : ℕ → List ℕ
time_words millis =
    codes "at " ++ (decimal (millis / 1000) ++ (46 ∷ (decimal (millis / 100 % 10) ++ (decimal (millis / 10 % 10) ++ (decimal (millis % 10) ++ codes " s")))))

-- The words of a line of a trace, by what went before it, but for what a frame, a report, a change at the menu and a message hold.
abbrev pub AreWordsOfLine : Before → Line → List ℕ → Type 0
AreWordsOfLine before (Send bytes fault) words = (front : List ℕ) × AreWordsOfBytes bytes front × (words ≡ front ++ fault_line fault)
AreWordsOfLine before (Reply None) words = words ≡ codes "no reply"
AreWordsOfLine before (Reply (Some bytes)) words = AreWordsOfBytes bytes words
AreWordsOfLine before (Job job) words = words ≡ job_words job.worker job.number ++ codes " starts"
AreWordsOfLine before (Heard heard) words = AreWordsOfHeard before.reply heard words
AreWordsOfLine before (Found uid) words = words ≡ found_words uid
AreWordsOfLine before (Arrive job outcome) words = ⊥
AreWordsOfLine before (Panel change refused) words = ⊥
AreWordsOfLine before (Message message) words = ⊥
AreWordsOfLine before (Time millis) words = words ≡ time_words millis
AreWordsOfLine before End words = words ≡ codes "end of the trace"
