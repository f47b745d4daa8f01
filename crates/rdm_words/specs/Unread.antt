-- The last words of a line: data that nothing interprets, since no table has their parameter. They stand there as all of their digits.
use Rattle.std.specs.Prelude.{◌≡◌, ◌≢◌, ◌⊎◌, ℕ, Bool, true, ◌==◌, ◌||◌, List, [], ◌∷◌, ◌++◌, Some, None, codes, length, if◌then◌else◌}
use Rattle.rdm_frame.specs.declared.frame.Frame.{Frame}
use Rattle.rdm_frame.specs.declared.decoding.FrameError.{FrameError}
use Rattle.rdm_frame.specs.Digits.{digits}
use Rattle.rdm_frame.specs.Reading.{frame_in}
use Rattle.rdm_params.specs.Table.Rows.{row_of}
use Rattle.rdm_trace.specs.declared.line.Line.{Line}
use Rattle.rdm_trace.specs.declared.line.Line.TheVariants.{Send, Reply, Job, Heard, Found, Arrive, Panel, Message as TheMessage, Time, End}
use Rattle.rdm_words.specs.Fixed.{fault_line, stray_words, with_start, is_readable, IsStray}

-- a line of its own with the data
abbrev pub data_line : List ℕ → List ℕ
data_line bytes = 10 ∷ codes "  data " ++ digits bytes

-- such a line, if there are data
abbrev pub plain_line : List ℕ → List ℕ
plain_line bytes = if length bytes == 0 then [] else data_line bytes

-- the same, but for the two slots of an ACK_TIMER or a NACK, which stand in the header
abbrev pub put_off_line : List ℕ → List ℕ
put_off_line bytes = if length bytes == 2 then [] else plain_line bytes

-- the command class of a discovery request, or of the response to one. E1.20 table A-1.
abbrev pub is_discovery : ℕ → Bool
is_discovery class = (class == 0x10) || (class == 0x11)

-- the command class of a response
abbrev pub is_response : ℕ → Bool
is_response class = (class == 0x11) || (class == 0x21) || (class == 0x31)

-- the response type ACK_TIMER or NACK_REASON, whose data are the fixture's answer and not the parameter's. Table A-2.
abbrev pub is_put_off : ℕ → Bool
is_put_off port = (port == 0x01) || (port == 0x02)

-- There are data, of a parameter that the table hasn't. Those of discovery are of another table.
pub record AreUnread (class : ℕ) (pid : ℕ) (bytes : List ℕ) : Type 0 where
  pub other : is_discovery class ≢ true
  pub unknown : row_of pid ≡ None
  pub some : bytes ≢ []

-- A frame has such data, and it isn't an ACK_TIMER or a NACK.
pub record HasUnread (f : Frame) : Type 0 where
  pub unread : AreUnread f.class f.pid f.body
  pub answer : is_response f.class ≡ true → is_put_off f.port ≢ true

-- a line of its own with bytes that aren't a frame: why, and all of their digits
abbrev pub stray_line : FrameError → List ℕ → List ℕ
stray_line cause bytes = 10 ∷ codes "  " ++ stray_words cause bytes

-- the last words of bytes from the bus that are such a frame, or that are none and can be read as one all the same
abbrev pub AreLastOfWhole : List ℕ → List ℕ → Type 0
AreLastOfWhole bytes words =
    ((f : Frame) × (frame_in bytes ≡ Some f) × HasUnread f × (words ≡ data_line f.body))
    ⊎ ((cause : FrameError) × IsStray cause bytes × (is_readable bytes ≡ true) × (words ≡ stray_line cause bytes))

abbrev pub AreLastOfBytes : List ℕ → List ℕ → Type 0
AreLastOfBytes bytes words = AreLastOfWhole (with_start bytes) words

-- the last words of a line of a trace with such a frame or such a message
abbrev pub AreLastOfLine : Line → List ℕ → Type 0
AreLastOfLine (Send bytes fault) words = (front : List ℕ) × AreLastOfBytes bytes front × (words ≡ front ++ fault_line fault)
AreLastOfLine (Reply None) words = ⊥
AreLastOfLine (Reply (Some bytes)) words = AreLastOfBytes bytes words
AreLastOfLine (Job job) words = ⊥
AreLastOfLine (Heard heard) words = ⊥
AreLastOfLine (Found uid) words = ⊥
AreLastOfLine (Arrive job outcome) words = ⊥
AreLastOfLine (Panel change refused) words = ⊥
AreLastOfLine (Time millis) words = ⊥
AreLastOfLine (TheMessage message) words = AreUnread message.class message.pid message.body × (words ≡ data_line message.body)
AreLastOfLine End words = ⊥
