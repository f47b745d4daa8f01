-- What the bytes of a frame are read as, whatever its numbers are: each number of 16 or 32 bits is read modulo these.
use Rattle.std.proofs.Common.{◌≡◌, ℕ, ◌%◌, true, List, [], ◌∷◌, ◌++◌, length, Some, refl, sym, ap, ◌∙◌, rules}
use Rattle.std.specs.Prelude.{sum}
use Rattle.std.specs.Int.{w16, w32, to_be_bytes, from_be_bytes}
use Rattle.std.proofs.lemmas.List.{take_at}
use Rattle.std.proofs.lemmas.Bool.{cond-true}
use Rattle.std.proofs.lemmas.Nat.{be_bytes_2, be_bytes_4, from_be_bytes-to_be_bytes_2, from_be_bytes-to_be_bytes_4}
use Rattle.std.proofs.lemmas.Slice.Eq.{compares_Decides}
use Rattle.rdm_frame.specs.declared.uid.Uid.{Uid}
use Rattle.rdm_frame.specs.declared.frame.Frame.{Frame}
use Rattle.rdm_frame.specs.FrameText.{head_slots, with_checksum, frame_text, IsUid, IsFrame}
use Rattle.rdm_frame.specs.Reading.{frame_of, frame_in}
use Rattle.std.specs.Str.{bytes_eq}

abbrev pub word : ℕ → ℕ
word n = from_be_bytes w16 (to_be_bytes w16 n)

abbrev pub long : ℕ → ℕ
long n = from_be_bytes w32 (to_be_bytes w32 n)

abbrev pub uid_read : Uid → Uid
uid_read u = record { maker = word u.maker; device = long u.device }

abbrev pub read_back : Frame → Frame
read_back f = record { dst = uid_read f.dst; src = uid_read f.src; tn = f.tn; port = f.port; count = f.count; sub = word f.sub; class = f.class; pid = word f.pid; body = f.body }

frame_of_cut : (f : Frame) (end : List ℕ) → frame_of ((head_slots f ++ f.body) ++ end) ≡ read_back f
unfolding frame_of head_slots
frame_of_cut f end = ap (λ (body : List ℕ). record (read_back f) { body = body }) (take_at f.body end (length f.body) refl)

frame_of_text : (f : Frame) → frame_of (frame_text f) ≡ read_back f
unfolding frame_text
frame_of_text f = frame_of_cut f (to_be_bytes w16 (sum (head_slots f ++ f.body) % 65536))

-- ---- read back, a frame has the same text

word_again : (n : ℕ) → to_be_bytes w16 (word n) ≡ to_be_bytes w16 n
word_again n = be_bytes_2 (to_be_bytes w16 n) (word n) refl (search rules) refl

long_again : (n : ℕ) → to_be_bytes w32 (long n) ≡ to_be_bytes w32 n
long_again n = be_bytes_4 (to_be_bytes w32 n) (long n) refl (search rules) refl

head_same : (a b c : ℕ) (u u' v v' w w' x x' : List ℕ) (m n o : ℕ) (y y' : List ℕ) (p : ℕ) (z z' : List ℕ) (q : ℕ) → u ≡ u' → v ≡ v' → w ≡ w' → x ≡ x' → y ≡ y' → z ≡ z' → a ∷ b ∷ c ∷ [] ++ (u ++ v) ++ (w ++ x) ++ m ∷ n ∷ o ∷ [] ++ y ++ p ∷ [] ++ z ++ q ∷ [] ≡ a ∷ b ∷ c ∷ [] ++ (u' ++ v') ++ (w' ++ x') ++ m ∷ n ∷ o ∷ [] ++ y' ++ p ∷ [] ++ z' ++ q ∷ []
head_same a b c u u' v v' w w' x x' m n o y y' p z z' q e1 e2 e3 e4 e5 e6 = rw (e1, e2, e3, e4, e5, e6) refl

head_again : (f : Frame) → head_slots (read_back f) ≡ head_slots f
unfolding head_slots
head_again f = head_same _ _ _ _ _ _ _ _ _ _ _ f.tn f.port f.count _ _ f.class _ _ (length f.body) (word_again f.dst.maker) (long_again f.dst.device) (word_again f.src.maker) (long_again f.src.device) (word_again f.sub) (word_again f.pid)

text_again : (f : Frame) → frame_text (read_back f) ≡ frame_text f
unfolding frame_text
text_again f = ap (λ (head : List ℕ). with_checksum (head ++ f.body)) (head_again f)

same_text : (f : Frame) → bytes_eq (frame_text f) (frame_text (frame_of (frame_text f))) ≡ true
same_text f = (compares_Decides bytes_eq (search rules) (frame_text f) (frame_text (frame_of (frame_text f)))).1 (sym (ap frame_text (frame_of_text f) ∙ text_again f))

pub read_as : (f : Frame) → frame_in (frame_text f) ≡ Some (read_back f)
unfolding frame_in
read_as f = cond-true _ _ _ (same_text f) ∙ ap (λ (g : Frame). Some g) (frame_of_text f)

-- ---- a frame whose numbers fit is read back

uid_again : (u : Uid) → IsUid u → uid_read u ≡ u
uid_again u fits = search (from_be_bytes-to_be_bytes_2 u.maker fits.maker, from_be_bytes-to_be_bytes_4 u.device fits.device)

frame_same : (f : Frame) (d s : Uid) (u i : ℕ) → d ≡ f.dst → s ≡ f.src → u ≡ f.sub → i ≡ f.pid → record f { dst = d; src = s; sub = u; pid = i } ≡ f
frame_same f d s u i e1 e2 e3 e4 = rw (e1, e2, e3, e4) refl

pub read_as_itself : (f : Frame) → IsFrame f → frame_in (frame_text f) ≡ Some f
read_as_itself f fits =
    read_as f ∙ ap (λ (g : Frame). Some g) (frame_same f _ _ _ _ (uid_again f.dst fits.dst) (uid_again f.src fits.src) (from_be_bytes-to_be_bytes_2 f.sub fits.sub) (from_be_bytes-to_be_bytes_2 f.pid fits.pid))
