-- What goes wrong with the frames of a transaction on their way.
use Rattle.std.specs.Prelude.{◌≡◌, ℕ, ◌+◌, ◌%◌, ◌<◌, List, length, slice_index, slice_set, Option, Some, None, IfSome}
use Rattle.rdm_frame.specs.declared.frame.Frame.{Frame}
use Rattle.rdm_frame.specs.FrameText.{frame_text, IsFrame}
use Rattle.rdm_frame.specs.Reading.{frame_in}
use Rattle.rdm_frame.specs.declared.fault.Fault.{Fault}
use Rattle.rdm_frame.specs.declared.fault.Fault.TheVariants as fault

-- by how much a fault raises a slot
abbrev pub raise_of : Fault → Option ℕ
raise_of fault.None = None
raise_of fault.LostRequest = None
raise_of fault.LostReply = None
raise_of (fault.BadRequest k x) = Some x
raise_of (fault.BadReply k x) = Some x

-- it raises one, if it does, by 1 to 255
abbrev pub IsFault : Fault → Type 0
IsFault fault = IfSome (raise_of fault) (λ x. (0 < x) × (x < 256))

-- the bytes with slot k raised by x, modulo 256
abbrev pub raised : List ℕ → ℕ → ℕ → List ℕ
raised bytes k x = slice_set bytes k ((slice_index bytes k + x) % 256)

-- The bytes with one slot raised, which is counted modulo their number.
abbrev pub altered : List ℕ → ℕ → ℕ → List ℕ
altered bytes k x = raised bytes (k % length bytes) x

-- What the device hears of a request.
abbrev pub request_heard : Fault → List ℕ → Option (List ℕ)
request_heard fault.None sent = Some sent
request_heard fault.LostRequest sent = None
request_heard fault.LostReply sent = Some sent
request_heard (fault.BadRequest k x) sent = Some (altered sent k x)
request_heard (fault.BadReply k x) sent = Some sent

-- What the controller hears of a reply.
abbrev pub reply_heard : Fault → List ℕ → Option (List ℕ)
reply_heard fault.None reply = Some reply
reply_heard fault.LostRequest reply = Some reply
reply_heard fault.LostReply reply = None
reply_heard (fault.BadRequest k x) reply = Some reply
reply_heard (fault.BadReply k x) reply = Some (altered reply k x)

-- A frame's text with one slot raised by 1 to 255 isn't a frame's text.
abbrev pub AlteredIsNoFrame : Type 0
AlteredIsNoFrame = (f : Frame) (k x : ℕ) → IsFrame f → 0 < x → x < 256 → frame_in (altered (frame_text f) k x) ≡ None
