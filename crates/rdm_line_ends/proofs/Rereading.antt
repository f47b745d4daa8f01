-- A frame that is written as bytes and read back, even if not every number of it fits its slots.
use Rattle.std.proofs.Common.{◌≡◌, ℕ, zero, suc, ◌+◌, ◌%◌, ◌^◌, ◌<◌, ◌≤◌, Bool, true, false, cond, List, [], ◌∷◌, ◌++◌, length, Some, None, refl, sym, ap, ap₂, subst, ◌∙◌, arith, length-append}
use Rattle.std.specs.Prelude.{sum}
use Rattle.std.specs.Int.{w16, w32, to_be_bytes, from_be_bytes}
use Rattle.std.specs.Str.{bytes_eq}
use Rattle.std.proofs.lemmas.Bool.{cond-true}
use Rattle.std.proofs.lemmas.List.{take_at}
use Rattle.std.proofs.lemmas.Nat.{be_bytes_2, from_be_bytes-to_be_bytes_2, from_be_bytes-to_be_bytes_4}
use Rattle.std.proofs.lemmas.Slice.Eq.{bytes_eq-Decides}
use Rattle.rdm_frame.specs.declared.frame.Frame.{Frame}
use Rattle.rdm_frame.specs.declared.uid.Uid.{Uid}
use Rattle.rdm_frame.specs.FrameText.{head_slots, with_checksum, frame_text, uid_slots, IsUid, IsFrame}
use Rattle.rdm_frame.specs.Reading.{frame_of, frame_in}
use Rattle.rdm_frame.proofs.Texts.{IsBytes, few_slots, frame_fits, passes_of_text}
use Rattle.rdm_line_ends.specs.Replies.{AreBytes}

-- ---- bytes, one by one

pub each_byte : (bytes : List ℕ) → AreBytes bytes → IsBytes bytes
each_byte [] are i = omega arith
each_byte (b ∷ bytes) are zero = are.0
each_byte (b ∷ bytes) are (suc i) = each_byte bytes are.1 i

-- ---- the frame of bytes

some_is : (f g : Frame) → Some f ≡ Some g → f ≡ g
some_is f g e = cc

found_by : (t : List ℕ) (f : Frame) (b : Bool) → IsBytes t → bytes_eq t (frame_text (frame_of t)) ≡ b → cond b (Some (frame_of t)) None ≡ Some f → IsFrame f
found_by t f true bytes same e =
    let passes = passes_of_text t bytes ((bytes_eq-Decides t (frame_text (frame_of t))).0 same) in
    subst IsFrame (some_is (frame_of t) f e) (frame_fits t bytes (few_slots t passes (bytes 2)))
found_by t f false bytes same e = absurd cc

-- each number of a frame that bytes are the text of fits its slots
pub found_fits : (t : List ℕ) (f : Frame) → AreBytes t → frame_in t ≡ Some f → IsFrame f
unfolding frame_in
found_fits t f are e = found_by t f (bytes_eq t (frame_text (frame_of t))) (each_byte t are) refl e

-- ---- the text of any frame

-- the frame that is read
abbrev pub read_back : Frame → Frame
read_back f = record f { sub = from_be_bytes w16 (to_be_bytes w16 f.sub); pid = from_be_bytes w16 (to_be_bytes w16 f.pid) }

abbrev uid : ℕ → ℕ → Uid
uid m d = record { maker = m; device = d }

uid_again : (u : Uid) → IsUid u → uid (from_be_bytes w16 (to_be_bytes w16 u.maker)) (from_be_bytes w32 (to_be_bytes w32 u.device)) ≡ u
uid_again u fits =
    ap₂ uid (from_be_bytes-to_be_bytes_2 u.maker fits.maker) (from_be_bytes-to_be_bytes_4 u.device fits.device)

-- with these for its UIDs and its data
abbrev back_with : Frame → Uid → Uid → List ℕ → Frame
back_with f dst src body = record (read_back f) { dst = dst; src = src; body = body }

back_same : (f : Frame) (d s : Uid) (b : List ℕ) → d ≡ f.dst → s ≡ f.src → b ≡ f.body → back_with f d s b ≡ read_back f
back_same f d s b e1 e2 e3 = rw (e1, e2, e3) refl

cut_again : (f : Frame) (end : List ℕ) → IsUid f.dst → IsUid f.src → frame_of ((head_slots f ++ f.body) ++ end) ≡ read_back f
unfolding frame_of head_slots
cut_again f end dst src = back_same f _ _ _ (uid_again f.dst dst) (uid_again f.src src) (take_at f.body end (length f.body) refl)

text_again : (f : Frame) → IsUid f.dst → IsUid f.src → frame_of (frame_text f) ≡ read_back f
unfolding frame_text
text_again f dst src = cut_again f (to_be_bytes w16 (sum (head_slots f ++ f.body) % 65536)) dst src

-- the text of a frame, by the slots of its sub-device and its PID
abbrev text_with : Frame → List ℕ → List ℕ → List ℕ
text_with f sub pid =
    with_checksum ((0xCC ∷ 0x01 ∷ (24 + length f.body) ∷ [] ++ uid_slots f.dst ++ uid_slots f.src ++ f.tn ∷ f.port ∷ f.count ∷ []
    ++ sub ++ f.class ∷ [] ++ pid ++ length f.body ∷ []) ++ f.body)

text_is : (f : Frame) → frame_text f ≡ text_with f (to_be_bytes w16 f.sub) (to_be_bytes w16 f.pid)
unfolding frame_text head_slots
text_is f = refl

two_bytes : (n : ℕ) → IsBytes (to_be_bytes w16 n)
two_bytes n zero = omega arith
two_bytes n (suc zero) = omega arith
two_bytes n (suc (suc i)) = omega arith

word_again : (n : ℕ) → to_be_bytes w16 (from_be_bytes w16 (to_be_bytes w16 n)) ≡ to_be_bytes w16 n
word_again n = be_bytes_2 (to_be_bytes w16 n) (from_be_bytes w16 (to_be_bytes w16 n)) refl (two_bytes n) refl

same_text : (f : Frame) → frame_text (read_back f) ≡ frame_text f
same_text f =
    text_is (read_back f) ∙ ap₂ (λ sub pid. text_with f sub pid) (word_again f.sub) (word_again f.pid) ∙ sym (text_is f)

-- it is read as that frame
pub text_read : (f : Frame) → IsUid f.dst → IsUid f.src → frame_in (frame_text f) ≡ Some (read_back f)
unfolding frame_in
text_read f dst src =
    let back : frame_of (frame_text f) ≡ read_back f = text_again f dst src in
    let same : frame_text f ≡ frame_text (frame_of (frame_text f)) = sym (ap frame_text back ∙ same_text f) in
    cond-true (bytes_eq (frame_text f) (frame_text (frame_of (frame_text f)))) _ _ ((bytes_eq-Decides (frame_text f) (frame_text (frame_of (frame_text f)))).1 same)
    ∙ ap (λ (g : Frame). Some g) back

-- the slot of the message length tells how much data there are
pub few_data : (f : Frame) → IsBytes (frame_text f) → length f.body ≤ 231
unfolding frame_text head_slots
few_data f bytes = omega (arith, bytes 2)

pub text_size : (f : Frame) → length (frame_text f) ≡ 26 + length f.body
unfolding frame_text head_slots
text_size f = omega (arith, length-append f.body (to_be_bytes w16 (sum (head_slots f ++ f.body) % 65536)))

-- a frame whose sub-device and PID fit is read as itself
same_numbers : (f : Frame) (sub pid : ℕ) → sub ≡ f.sub → pid ≡ f.pid → record f { sub = sub; pid = pid } ≡ f
same_numbers f sub pid e1 e2 = rw (e1, e2) refl

pub fits_read : (f : Frame) → IsUid f.dst → IsUid f.src → f.sub < 2 ^ 16 → f.pid < 2 ^ 16 → frame_in (frame_text f) ≡ Some f
fits_read f dst src sub pid =
    text_read f dst src ∙ ap (λ (g : Frame). Some g) (same_numbers f _ _ (from_be_bytes-to_be_bytes_2 f.sub sub) (from_be_bytes-to_be_bytes_2 f.pid pid))
