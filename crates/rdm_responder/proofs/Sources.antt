-- Who asked, as the bytes of a request tell.
use Rattle.std.proofs.Common.{◌≡◌, ◌+◌, ℕ, Bool, true, false, cond, List, length, Option, Some, None, sym, ap, ◌∙◌, arith}
use Rattle.std.specs.Prelude.{slice_index}
use Rattle.std.specs.Str.{bytes_eq}
use Rattle.rdm_frame.specs.declared.frame.Frame.{Frame}
use Rattle.rdm_frame.specs.FrameText.{frame_text, IsFrame}
use Rattle.rdm_frame.specs.Reading.{frame_of, frame_in, uid_at}
use Rattle.rdm_frame.proofs.Texts.{has_slots}
use Rattle.rdm_responder.specs.Requests.{IsFrom}

abbrev some_frame : Frame → Option Frame
some_frame f = Some f

the_one : (b : Bool) (f g : Frame) → some_frame f ≡ cond b (some_frame g) None → f ≡ g
the_one true f g e = cc
the_one false f g e = absurd cc

read_so : (t : List ℕ) (f : Frame) → some_frame f ≡ frame_in t → f ≡ frame_of t
unfolding frame_in
read_so t f e = the_one (bytes_eq t (frame_text (frame_of t))) f (frame_of t) e

source : (t : List ℕ) (f : Frame) → f ≡ frame_of t → uid_at t 9 ≡ f.src
unfolding frame_of
source t f e = ap (λ (g : Frame). g.src) (sym e)

transaction : (t : List ℕ) (f : Frame) → f ≡ frame_of t → slice_index t 15 ≡ f.tn
unfolding frame_of
transaction t f e = ap (λ (g : Frame). g.tn) (sym e)

-- what is the text of a frame tells of the frame
pub is_from : (t : List ℕ) (f : Frame) → IsFrame f → t ≡ frame_text f → Some f ≡ frame_in t → IsFrom t f
is_from t f is text read =
    let long : length t ≡ 26 + length f.body = ap length text ∙ (has_slots f is).slots in
    let same : f ≡ frame_of t = read_so t f read in
    (omega (arith, long), source t f same, transaction t f same)
