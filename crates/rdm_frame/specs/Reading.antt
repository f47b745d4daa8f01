-- What frame a byte list is the text of, and which of the six tests it fails first. E1.20 section 6.2.
use Rattle.std.specs.Prelude.{◌≡◌, ℕ, ◌+◌, ◌-◌, ◌%◌, ◌≤◌, List, length, take, drop, sum, slice_index, Option, Some, None, if◌then◌else◌}
use Rattle.std.specs.Int.{w16, w32, from_be_bytes}
use Rattle.std.specs.Str.{bytes_eq}
use Rattle.rdm_frame.specs.declared.uid.Uid.{Uid}
use Rattle.rdm_frame.specs.declared.frame.Frame.{Frame}
use Rattle.rdm_frame.specs.declared.decoding.FrameError.{FrameError}
use Rattle.rdm_frame.specs.declared.decoding.FrameError.TheVariants.{Short, Start, SubStart, Length, Pdl, Checksum}
use Rattle.rdm_frame.specs.FrameText.{frame_text}

-- the 16-bit number at a slot, most significant byte first
abbrev pub word_at : List ℕ → ℕ → ℕ
word_at t i = from_be_bytes w16 (take 2 (drop i t))

-- the 32-bit number at a slot, most significant byte first
abbrev pub long_at : List ℕ → ℕ → ℕ
long_at t i = from_be_bytes w32 (take 4 (drop i t))

-- the UID at a slot. Sections 6.2.4 and 6.2.5.
abbrev pub uid_at : List ℕ → ℕ → Uid
uid_at t i = record { maker = word_at t i; device = long_at t (i + 2) }

-- what the slots say, if they are a frame's
unfoldable pub frame_of : List ℕ → Frame
frame_of t = record {
  dst = uid_at t 3;
  src = uid_at t 9;
  tn = slice_index t 15;
  port = slice_index t 16;
  count = slice_index t 17;
  sub = word_at t 18;
  class = slice_index t 20;
  pid = word_at t 21;
  body = take (slice_index t 23) (drop 24 t);
}

-- The one frame that these bytes are the text of, if there is one.
unfoldable pub frame_in : List ℕ → Option Frame
frame_in t = if bytes_eq t (frame_text (frame_of t)) then Some (frame_of t) else None

-- the slots that the checksum is over
abbrev pub summed_slots : List ℕ → List ℕ
summed_slots t = take (length t - 2) t

-- The test that each refusal names. Sections 6.2.1 to 6.2.3, 6.2.10 and 6.2.11.
abbrev pub Passes : FrameError → List ℕ → Type 0
Passes Short t = 26 ≤ length t
Passes Start t = slice_index t 0 ≡ 0xCC
Passes SubStart t = slice_index t 1 ≡ 0x01
Passes Length t = (24 ≤ slice_index t 2) × (slice_index t 2 + 2 ≡ length t)
Passes Pdl t = 24 + slice_index t 23 ≡ slice_index t 2
Passes Checksum t = word_at t (length t - 2) ≡ sum (summed_slots t) % 65536

-- the tests before it
abbrev pub PassesBefore : FrameError → List ℕ → Type 0
PassesBefore Short t = Unit {0}
PassesBefore Start t = Passes Short t
PassesBefore SubStart t = Passes Short t × Passes Start t
PassesBefore Length t = Passes Short t × Passes Start t × Passes SubStart t
PassesBefore Pdl t = Passes Short t × Passes Start t × Passes SubStart t × Passes Length t
PassesBefore Checksum t = Passes Short t × Passes Start t × Passes SubStart t × Passes Length t × Passes Pdl t

-- It is the first test that these bytes fail.
abbrev pub IsFirstFault : FrameError → List ℕ → Type 0
IsFirstFault e t = PassesBefore e t × ((Passes e t) → ⊥)

-- the six tests
abbrev pub PassesAll : List ℕ → Type 0
PassesAll t = PassesBefore Checksum t × Passes Checksum t
