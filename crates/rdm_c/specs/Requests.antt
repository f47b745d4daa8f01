-- The bytes of a request that C is to send.
use Rattle.std.specs.Prelude.{◌≡◌, ℕ, List, length, take}
use Rattle.rdm_frame.specs.declared.frame.Frame.{Frame}
use Rattle.rdm_frame.specs.FrameText.{frame_text, IsFrame}

-- The text of this frame stands at the front, which is so many bytes, and it is a frame.
abbrev pub IsWritten : ℕ → List ℕ → Frame → Type 0
IsWritten count bytes frame = (take count bytes ≡ frame_text frame) × (count ≡ length (frame_text frame)) × IsFrame frame
