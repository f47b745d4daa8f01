-- The text of a frame is bytes, as many as a frame has at most.
use Rattle.std.proofs.Common.{ℕ, suc, ◌%◌, ◌^◌, ◌<◌, ◌≤◌, List, [], ◌∷◌, ◌++◌, length, arith, length-append, rules}
use Rattle.std.specs.Prelude.{sum, slice_index}
use Rattle.std.specs.Int.{w16, to_be_bytes}
use Rattle.rdm_frame.specs.declared.frame.Frame.{Frame}
use Rattle.rdm_frame.specs.FrameText.{head_slots, frame_text, IsFrame}
use Rattle.rdm_line_ends.specs.Replies.{AreBytes}

AreBytes-append : (xs ys : List ℕ) → AreBytes xs → AreBytes ys → AreBytes (xs ++ ys)
AreBytes-append [] ys h g = g
AreBytes-append (x ∷ xs) ys h g = (h.0, AreBytes-append xs ys h.1 g)

AreBytes-from : (xs : List ℕ) → ((i : ℕ) → slice_index xs i < 2 ^ 8) → AreBytes xs
AreBytes-from [] h = tt
AreBytes-from (x ∷ xs) h = (h 0, AreBytes-from xs (λ i. h (suc i)))

head_bytes : (f : Frame) → IsFrame f → AreBytes (head_slots f)
unfolding head_slots
head_bytes f fits = search rules

abbrev checksum : List ℕ → List ℕ
checksum s = to_be_bytes w16 (sum s % 65536)

pub text_bytes : (f : Frame) → IsFrame f → AreBytes (frame_text f)
unfolding frame_text
text_bytes f fits =
    AreBytes-append (head_slots f ++ f.body) (checksum (head_slots f ++ f.body)) (AreBytes-append (head_slots f) f.body (head_bytes f fits) (AreBytes-from f.body fits.data_slots)) (search rules)

pub text_fits : (f : Frame) → IsFrame f → length (frame_text f) ≤ 257
unfolding frame_text head_slots
text_fits f fits = omega (arith, fits.body, length-append (head_slots f) f.body, length-append (head_slots f ++ f.body) (checksum (head_slots f ++ f.body)))
