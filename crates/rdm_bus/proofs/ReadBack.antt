-- The message that the text of a frame is read as, whatever the frame's numbers are.
use Rattle.std.proofs.Common.{◌≡◌, ℕ, ◌%◌, Some, refl, arith}
use Rattle.rdm_frame.specs.declared.frame.Frame.{Frame}
use Rattle.rdm_frame.specs.FrameText.{frame_text}
use Rattle.rdm_collector.specs.Answers.{message_of}
use Rattle.rdm_bus.specs.BusLaws.{carried, message_in}
use Rattle.rdm_collector.proofs.ReadBack.{word, read_as}

word_is : (n : ℕ) → word n ≡ n % 65536
word_is n = omega arith

pub message_read : (f : Frame) → message_in (frame_text f) ≡ Some (carried (message_of f))
message_read f = rw (read_as f, word_is f.sub, word_is f.pid) refl
