-- The messages of the interface, and which messages a stream of bytes holds.
use Rattle.std.specs.Prelude.{◌≡◌, ℕ, ◌<◌, ◌≤◌, ◌%◌, ◌/◌, List, [], ◌∷◌, ◌++◌, length}
use Rattle.std.specs.List.{flat_map}
use Rattle.rdm_messages.specs.declared.framing.Front.{Front}
use Rattle.rdm_messages.specs.declared.framing.Front.TheVariants.{Unfinished, Stray, Whole}
use Rattle.rdm_messages.specs.declared.framing.MessageView.{MessageView}

-- What a message is about, and what it says.
pub record Message : Type 0 where
  pub label : ℕ
  pub body : List ℕ

-- A body has at most 600 bytes.
pub record IsMessage (m : Message) : Type 0 where
  pub size : length m.body ≤ 600

-- Its bytes: 0x7E, the label, the length of the body (low byte first), the body, and 0xE7.
abbrev pub message_bytes : Message → List ℕ
message_bytes m = 0x7E ∷ m.label ∷ (length m.body % 256) ∷ (length m.body / 256) ∷ m.body ++ 0xE7 ∷ []

-- the bytes of messages, one after another
abbrev pub bytes_of : List Message → List ℕ
bytes_of messages = flat_map message_bytes messages

-- ---- what stands at the front of a stream

-- A message begins with these bytes, and has some more.
pub record IsUnfinished (bytes : List ℕ) : Type 0 where
  pub message : Message
  pub more : List ℕ
  pub is_message : IsMessage message
  pub lacks : 0 < length more
  pub whole : bytes ++ more ≡ message_bytes message

-- However the stream goes on after these bytes, no message stands at its front.
abbrev pub IsStray : List ℕ → Type 0
IsStray bytes = (m : Message) (more rest : List ℕ) → IsMessage m → bytes ++ more ≡ message_bytes m ++ rest → ⊥

-- This message stands there.
pub record IsWhole (bytes : List ℕ) (m : Message) : Type 0 where
  pub rest : List ℕ
  pub is_message : IsMessage m
  pub whole : bytes ≡ message_bytes m ++ rest

-- a message in a buffer
abbrev pub message_in : MessageView → Message
message_in m = record { label = m.label; body = m.body.now }

-- what is said of the front of these bytes is so
abbrev pub IsFront : List ℕ → Front → Type 0
IsFront bytes Unfinished = IsUnfinished bytes
IsFront bytes Stray = (0 < length bytes) × IsStray bytes
IsFront bytes (Whole m) = IsWhole bytes (message_in m)

-- ---- what a stream holds

-- A byte with which no message begins, or a message.
pub data Piece : Type 0 where
  Rubbish : ℕ → Piece
  Said : Message → Piece

-- the bytes of pieces, one after another
abbrev pub stream_of : List Piece → List ℕ
stream_of [] = []
stream_of (Rubbish byte ∷ pieces) = byte ∷ stream_of pieces
stream_of (Said m ∷ pieces) = message_bytes m ++ stream_of pieces

-- the messages among pieces
abbrev pub messages_of : List Piece → List Message
messages_of [] = []
messages_of (Rubbish byte ∷ pieces) = messages_of pieces
messages_of (Said m ∷ pieces) = m ∷ messages_of pieces

-- They are rightly cut from a stream that goes on with these bytes.
abbrev pub AreCut : List Piece → List ℕ → Type 0
AreCut [] rest = Unit {0}
AreCut (Rubbish byte ∷ pieces) rest = IsStray (byte ∷ stream_of pieces ++ rest) × AreCut pieces rest
AreCut (Said m ∷ pieces) rest = IsMessage m × AreCut pieces rest

-- A stream begins with these messages, and goes on with the rest: it is cut into pieces, which have no other message.
pub record Begins (stream : List ℕ) (messages : List Message) (rest : List ℕ) : Type 0 where
  pub pieces : List Piece
  pub whole : stream ≡ stream_of pieces ++ rest
  pub cut : AreCut pieces rest
  pub said : messages ≡ messages_of pieces

-- A stream holds these messages: it begins with them, and no whole message is left.
pub record Holds (stream : List ℕ) (messages : List Message) : Type 0 where
  pub rest : List ℕ
  pub begins : Begins stream messages rest
  pub unfinished : IsUnfinished rest
