-- What serving a stream comes to.
use Rattle.std.specs.Prelude.{◌≡◌, ◌<◌, ℕ, Bool, ◌==◌, ◌||◌, List, [], ◌∷◌, ◌++◌, length, map, take, Option, if◌then◌else◌}
use Rattle.std.specs.Io.KnownBytes.{Consumes, Appends}
use Rattle.rdm_messages.specs.Ends.{End}
use Rattle.rdm_messages.specs.Framing.{Message, IsUnfinished, Begins, bytes_of}
use Rattle.rdm_messages.specs.Hearing.{Hearing}
use Rattle.rdm_messages.specs.Protocol.{answer_to, answer_of_line, answer_of_discovery, after_message}

-- A message, and when it came.
pub record Turn : Type 0 where
  pub at : ℕ
  pub message : Message

abbrev pub messages_in : List Turn → List Message
messages_in turns = map (λ turn. turn.message) turns

abbrev pub times_of : List Turn → List ℕ
times_of turns = map (λ turn. turn.at) turns

-- the situation after these turns
abbrev pub after_turns : {D S : Type 0} → Hearing D S → S → List Turn → S
after_turns line s [] = s
after_turns line s (turn ∷ turns) = after_turns line (after_message line turn.at s turn.message) turns

-- the bytes of what is answered in a turn
abbrev pub answer_in : {D S : Type 0} → Hearing D S → S → Turn → List ℕ
answer_in line s turn = bytes_of (answer_to line turn.at s turn.message)

-- the bytes of what is answered in these turns
abbrev pub answers : {D S : Type 0} → Hearing D S → S → List Turn → List ℕ
answers line s [] = []
answers line s (turn ∷ turns) = answer_in line s turn ++ answers line (after_message line turn.at s turn.message) turns

-- ---- requests and replies

-- it sends a request on the line
abbrev pub is_request : Message → Bool
is_request m = (m.label == 7) || (m.label == 11)

-- what comes from the line in each of these turns
abbrev pub replies_in : {D S : Type 0} → Hearing D S → S → List Turn → List (Option (List ℕ))
replies_in line s [] = []
replies_in line s (turn ∷ turns) = line.reply turn.at s turn.message.body ∷ replies_in line (after_message line turn.at s turn.message) turns

-- what is answered to a request if this comes from the line
abbrev pub answer_with : Message → Option (List ℕ) → List Message
answer_with m reply = if m.label == 11 then answer_of_discovery reply else answer_of_line reply

-- the bytes of what is answered to these requests, if this comes from the line for each
abbrev pub answers_with : List Message → List (Option (List ℕ)) → List ℕ
answers_with [] replies = []
answers_with (m ∷ ms) [] = []
answers_with (m ∷ ms) (reply ∷ replies) = bytes_of (answer_with m reply) ++ answers_with ms replies

-- ---- serving

-- A clock tells these times, one after another.
abbrev pub Tells : {C : Type 0} → (C → ℕ → C → Type 0) → C → List ℕ → C → Type 0
Tells tells before [] after = after ≡ before
Tells {C} tells before (time ∷ times) after = (mid : C) × (tells before time mid × Tells tells mid times after)

-- It begins with nothing held. All messages of what was read are answered, each by the clock, and held is what is left, the beginning
-- of a message. What was written before stays.
pub record IsServed {C D S : Type 0} (tells : C → ℕ → C → Type 0) (line : Hearing D S) (before after : End C) (s : S) (d : D) : Type 0 where
  pub none_held : before.held ≡ []
  pub input : List ℕ
  pub turns : List Turn
  pub read : Consumes before.unread after.unread input
  pub begins : Begins input (messages_in turns) after.held
  pub unfinished : IsUnfinished after.held
  pub times : Tells tells before.clock (times_of turns) after.clock
  pub written : Appends before.written after.written (answers line s turns)
  pub situation : line.is_in d (after_turns line s turns)

-- Of these bytes all but the rest are done with, each message of them in its turn, and so much was written.
pub record AreDone {C D S : Type 0} (tells : C → ℕ → C → Type 0) (line : Hearing D S) (before after : C) (bytes rest : List ℕ) (s : S) (d : D) (AreWritten : S → List Turn → Type 0) : Type 0 where
  pub turns : List Turn
  pub begins : Begins bytes (messages_in turns) rest
  pub times : Tells tells before (times_of turns) after
  pub written : AreWritten s turns
  pub situation : line.is_in d (after_turns line s turns)

-- All answers of these turns were written.
abbrev pub AllWritten : {D S : Type 0} → Hearing D S → Option (List ℕ) → Option (List ℕ) → S → List Turn → Type 0
AllWritten line old new s turns = Appends old new (answers line s turns)

-- The writer failed in the last of these turns: all answers of those before were written, and of the last one's answer a
-- front that isn't all of it.
pub record LastCutShort {D S : Type 0} (line : Hearing D S) (old new : Option (List ℕ)) (s : S) (turns : List Turn) : Type 0 where
  pub before : List Turn
  pub last : Turn
  pub count : ℕ
  pub ends : turns ≡ before ++ last ∷ []
  pub lacks : count < length (answer_in line (after_turns line s before) last)
  pub written : Appends old new (answers line s before ++ take count (answer_in line (after_turns line s before) last))

-- One read, which gave so many bytes: they stand behind what was held. All messages that are whole then are answered, each by the
-- clock, and held is what is left, the beginning of a message.
pub record IsServedOnce {C D S : Type 0} (tells : C → ℕ → C → Type 0) (line : Hearing D S) (before after : End C) (count : ℕ) (s : S) (d : D) : Type 0 where
  pub input : List ℕ
  pub size : length input ≡ count
  pub read : Consumes before.unread after.unread input
  pub done : AreDone tells line before.clock after.clock (before.held ++ input) after.held s d (AllWritten line before.written after.written)
  pub unfinished : IsUnfinished after.held

-- The writer failed in the last turn. What was read after its message isn't answered. What is held then isn't told.
pub record IsCutShort {C D S : Type 0} (tells : C → ℕ → C → Type 0) (line : Hearing D S) (before after : End C) (s : S) (d : D) : Type 0 where
  pub input : List ℕ
  pub rest : List ℕ
  pub read : Consumes before.unread after.unread input
  pub done : AreDone tells line before.clock after.clock (before.held ++ input) rest s d (LastCutShort line before.written after.written)
