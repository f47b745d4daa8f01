-- A frame's text is read back as that frame, and bytes that pass the six tests are the text of what they say.
use Rattle.std.proofs.Common.{◌≡◌, ℕ, zero, suc, ◌+◌, ◌-◌, ◌%◌, ◌^◌, ◌<◌, ◌≤◌, true, false, List, [], ◌∷◌, ◌++◌, length, get_or, take, drop, Some, None, refl, sym, ap, ◌∙◌, arith, append_assoc, inl, inr, Bool, cond}
use Rattle.std.specs.Prelude.{sum, slice_index, slice_range}
use Rattle.std.specs.Int.{w16, w32, to_be_bytes, from_be_bytes}
use Rattle.std.proofs.Math.Seq.{drop-cons, take-add}
use Rattle.std.proofs.lemmas.List.{take_at, drop_at, take_all, take-append-drop, length-append, length-take, length-drop, get_or-drop, get_or-take, get_or_past}
use Rattle.std.proofs.lemmas.Nat.{be_bytes_2, be_bytes_4, from_be_bytes-to_be_bytes_2, from_be_bytes-to_be_bytes_4}
use Rattle.std.specs.Str.{bytes_eq}
use Rattle.std.proofs.lemmas.Bool.{cases_lt}
use Rattle.std.proofs.lemmas.Slice.Eq.{bytes_eq-Decides}
use Rattle.rdm_frame.specs.declared.uid.Uid.{Uid}
use Rattle.rdm_frame.specs.declared.frame.Frame.{Frame}
use Rattle.rdm_frame.specs.declared.decoding.FrameError.{FrameError}
use Rattle.rdm_frame.specs.declared.decoding.FrameError.TheVariants.{Short, Start, SubStart, Length, Pdl, Checksum}
use Rattle.rdm_frame.specs.FrameText.{head_slots, with_checksum, frame_text, IsUid, IsFrame, HasSlots}
use Rattle.rdm_frame.specs.Reading.{word_at, long_at, frame_of, frame_in, summed_slots, Passes, PassesBefore, IsFirstFault, PassesAll}

abbrev pub IsBytes : List ℕ → Type 0
IsBytes t = (i : ℕ) → slice_index t i < 256

IsBytes-drop : (n : ℕ) (t : List ℕ) → IsBytes t → IsBytes (drop n t)
IsBytes-drop n t h i = rw get_or-drop (h (n + i))

IsBytes-take : (n : ℕ) (t : List ℕ) → IsBytes t → IsBytes (take n t)
IsBytes-take n t h i =
    elim (cases_lt i n) [
      | inl lt ↦ rw (get_or-take n t i 0 lt) (h i)
      | inr le ↦ rw (get_or_past (take n t) i 0 (omega (arith, length-take n t))) (omega arith)
    ]

-- n elements from i on, one by one
abbrev items_from : ℕ → ℕ → List ℕ → List ℕ
items_from zero i t = []
items_from (suc n) i t = get_or t i 0 ∷ items_from n (suc i) t

items_from-take : (n i : ℕ) (t : List ℕ) → i + n ≤ length t → items_from n i t ≡ take n (drop i t)
items_from-take zero i t h = refl
items_from-take (suc n) i t h =
    let lt : i < length t = omega arith in
    let rest : items_from n (suc i) t ≡ take n (drop (suc i) t) = items_from-take n (suc i) t (omega arith) in
    ap (λ (xs : List ℕ). get_or t i 0 ∷ xs) rest ∙ ap (take (suc n)) (sym (drop-cons t i 0 lt))

-- what is written of the number read at a slot are its bytes
word_again : (t : List ℕ) (i : ℕ) → IsBytes t → i + 2 ≤ length t → to_be_bytes w16 (word_at t i) ≡ get_or t i 0 ∷ get_or t (suc i) 0 ∷ []
word_again t i fits h =
    be_bytes_2 (take 2 (drop i t)) (word_at t i) (omega (arith, length-take 2 (drop i t), length-drop i t)) (IsBytes-take 2 (drop i t) (IsBytes-drop i t fits)) refl ∙ sym (items_from-take 2 i t h)

long_again : (t : List ℕ) (i : ℕ) → IsBytes t → i + 4 ≤ length t → to_be_bytes w32 (long_at t i) ≡ get_or t i 0 ∷ get_or t (suc i) 0 ∷ get_or t (suc (suc i)) 0 ∷ get_or t (suc (suc (suc i))) 0 ∷ []
long_again t i fits h =
    be_bytes_4 (take 4 (drop i t)) (long_at t i) (omega (arith, length-take 4 (drop i t), length-drop i t)) (IsBytes-take 4 (drop i t) (IsBytes-drop i t fits)) refl ∙ sym (items_from-take 4 i t h)

-- ---- bytes that pass the tests

-- the parts of a header, part by part
head_same : (a0 b0 a1 b1 a2 b2 : ℕ) (u u' v v' w w' x x' : List ℕ) (m n o : ℕ) (y y' : List ℕ) (p : ℕ) (z z' : List ℕ) (q q' : ℕ) → a0 ≡ b0 → a1 ≡ b1 → a2 ≡ b2 → u ≡ u' → v ≡ v' → w ≡ w' → x ≡ x' → y ≡ y' → z ≡ z' → q ≡ q' → a0 ∷ a1 ∷ a2 ∷ [] ++ (u ++ v) ++ (w ++ x) ++ m ∷ n ∷ o ∷ [] ++ y ++ p ∷ [] ++ z ++ q ∷ [] ≡ b0 ∷ b1 ∷ b2 ∷ [] ++ (u' ++ v') ++ (w' ++ x') ++ m ∷ n ∷ o ∷ [] ++ y' ++ p ∷ [] ++ z' ++ q' ∷ []
head_same a0 b0 a1 b1 a2 b2 u u' v v' w w' x x' m n o y y' p z z' q q' e0 e1 e2 e3 e4 e5 e6 e7 e8 e9 =
    rw (e0, e1, e2, e3, e4, e5, e6, e7, e8, e9) refl

data_len : (t : List ℕ) → PassesAll t → length (take (slice_index t 23) (drop 24 t)) ≡ slice_index t 23
data_len t ok = omega (arith, length-take (slice_index t 23) (drop 24 t), length-drop 24 t, ok.0.3, ok.0.4)

head_again : (t : List ℕ) → IsBytes t → PassesAll t → head_slots (frame_of t) ≡ take 24 t
unfolding head_slots frame_of
head_again t fits ok =
    let long : 26 ≤ length t = ok.0.0 in
    let count = data_len t ok in
    let len : 24 + length (take (slice_index t 23) (drop 24 t)) ≡ get_or t 2 0 = omega (arith, count, ok.0.4) in
    head_same _ _ _ _ _ _ _ _ _ _ _ _ _ _ (get_or t 15 0) (get_or t 16 0) (get_or t 17 0) _ _ (get_or t 20 0) _ _ _ _ (sym ok.0.1) (sym ok.0.2) len (word_again t 3 fits (omega arith)) (long_again t 5 fits (omega arith)) (word_again t 9 fits (omega arith)) (long_again t 11 fits (omega arith)) (word_again t 18 fits (omega arith)) (word_again t 21 fits (omega arith)) count
    ∙ items_from-take 24 0 t (omega arith)

-- the checksum that the last two slots have is the one that the others give
sum_again : (t : List ℕ) → IsBytes t → 26 ≤ length t → Passes Checksum t → with_checksum (summed_slots t) ≡ t
sum_again t fits long ok =
    let two : length (drop (length t - 2) t) ≡ 2 = omega (arith, length-drop (length t - 2) t) in
    let whole : take 2 (drop (length t - 2) t) ≡ drop (length t - 2) t = take_all 2 (drop (length t - 2) t) (omega (arith, two)) in
    let last : to_be_bytes w16 (word_at t (length t - 2)) ≡ drop (length t - 2) t = be_bytes_2 (drop (length t - 2) t) (word_at t (length t - 2)) two (IsBytes-drop (length t - 2) t fits) (ap (from_be_bytes w16) whole) in
    ap (λ (n : ℕ). summed_slots t ++ to_be_bytes w16 n) (sym ok) ∙ ap (λ (xs : List ℕ). summed_slots t ++ xs) last ∙ take-append-drop (length t - 2) t

body_is : (t : List ℕ) → (frame_of t).body ≡ take (slice_index t 23) (drop 24 t)
unfolding frame_of
body_is t = refl

pub text_again : (t : List ℕ) → IsBytes t → PassesAll t → frame_text (frame_of t) ≡ t
unfolding frame_text
text_again t fits ok =
    let body : (frame_of t).body ≡ take (slice_index t 23) (drop 24 t) = body_is t in
    let count : 24 + slice_index t 23 ≡ length t - 2 = omega (arith, ok.0.3, ok.0.4) in
    let slots : head_slots (frame_of t) ++ (frame_of t).body ≡ summed_slots t =
    rw (head_again t fits ok, body) (sym (take-add 24 (slice_index t 23) t) ∙ ap (λ (n : ℕ). take n t) count) in
    ap with_checksum slots ∙ sum_again t fits ok.0.0 ok.1

word_fits : (t : List ℕ) (i : ℕ) → IsBytes t → word_at t i < 2 ^ 16
word_fits t i fits =
    let part = IsBytes-take 2 (drop i t) (IsBytes-drop i t fits) in
    omega (arith, part 0, part 1)

long_fits : (t : List ℕ) (i : ℕ) → IsBytes t → long_at t i < 2 ^ 32
long_fits t i fits =
    let part = IsBytes-take 4 (drop i t) (IsBytes-drop i t fits) in
    omega (arith, part 0, part 1, part 2, part 3)

pub frame_fits : (t : List ℕ) → IsBytes t → slice_index t 23 ≤ 231 → IsFrame (frame_of t)
unfolding frame_of
frame_fits t fits few = record {
  dst = record { maker = word_fits t 3 fits; device = long_fits t 5 fits };
  src = record { maker = word_fits t 9 fits; device = long_fits t 11 fits };
  tn = fits 15;
  port = fits 16;
  count = fits 17;
  sub = word_fits t 18 fits;
  class = fits 20;
  pid = word_fits t 21 fits;
  body = omega (arith, length-take (slice_index t 23) (drop 24 t));
  data_slots = IsBytes-take (slice_index t 23) (drop 24 t) (IsBytes-drop 24 t fits);
}

-- ---- the text of a frame

abbrev frame : Uid → Uid → ℕ → ℕ → ℕ → ℕ → ℕ → ℕ → List ℕ → Frame
frame d s t p c u k i b = record { dst = d; src = s; tn = t; port = p; count = c; sub = u; class = k; pid = i; body = b }

abbrev uid : ℕ → ℕ → Uid
uid m d = record { maker = m; device = d }

frame_same : (d d' s s' : Uid) (t p c : ℕ) (u u' : ℕ) (k : ℕ) (i i' : ℕ) (b b' : List ℕ) → d ≡ d' → s ≡ s' → u ≡ u' → i ≡ i' → b ≡ b' → frame d s t p c u k i b ≡ frame d' s' t p c u' k i' b'
frame_same d d' s s' t p c u u' k i i' b b' e1 e2 e3 e4 e5 = rw (e1, e2, e3, e4, e5) refl

uid_same : (m m' d d' : ℕ) → m ≡ m' → d ≡ d' → uid m d ≡ uid m' d'
uid_same m m' d d' e1 e2 = rw (e1, e2) refl

uid_again : (u : Uid) → IsUid u → uid (from_be_bytes w16 (to_be_bytes w16 u.maker)) (from_be_bytes w32 (to_be_bytes w32 u.device)) ≡ u
uid_again u fits = uid_same _ u.maker _ u.device (from_be_bytes-to_be_bytes_2 u.maker fits.maker) (from_be_bytes-to_be_bytes_4 u.device fits.device)

frame_of_cut : (f : Frame) (end : List ℕ) → IsFrame f → frame_of ((head_slots f ++ f.body) ++ end) ≡ f
unfolding frame_of head_slots
frame_of_cut f end fits =
    frame_same _ f.dst _ f.src f.tn f.port f.count _ f.sub f.class _ f.pid _ f.body (uid_again f.dst fits.dst) (uid_again f.src fits.src) (from_be_bytes-to_be_bytes_2 f.sub fits.sub) (from_be_bytes-to_be_bytes_2 f.pid fits.pid) (take_at f.body end (length f.body) refl)

pub frame_again : (f : Frame) → IsFrame f → frame_of (frame_text f) ≡ f
unfolding frame_text
frame_again f fits = frame_of_cut f (to_be_bytes w16 (sum (head_slots f ++ f.body) % 65536)) fits

before_cut : (f : Frame) (end : List ℕ) → length f.body ≤ 231 → length end ≡ 2 → PassesBefore Checksum ((head_slots f ++ f.body) ++ end)
unfolding head_slots
before_cut f end few two =
    let len : length (f.body ++ end) ≡ length f.body + 2 = omega (arith, length-append f.body end) in
    (omega (arith, len), refl, refl, (omega arith, omega (arith, len)), refl)

sum_passes : (slots end : List ℕ) → end ≡ to_be_bytes w16 (sum slots % 65536) → Passes Checksum (slots ++ end)
sum_passes slots end e =
    let two : length end ≡ 2 = ap length e in
    let k : length (slots ++ end) - 2 ≡ length slots = omega (arith, length-append slots end, two) in
    let front : take (length (slots ++ end) - 2) (slots ++ end) ≡ slots = rw k (take_at slots end (length slots) refl) in
    let back : take 2 (drop (length (slots ++ end) - 2) (slots ++ end)) ≡ to_be_bytes w16 (sum slots % 65536) = rw (k, drop_at slots end (length slots) refl) (take_all 2 end (omega (arith, two)) ∙ e) in
    ap (from_be_bytes w16) back ∙ from_be_bytes-to_be_bytes_2 (sum slots % 65536) (omega arith) ∙ ap (λ (xs : List ℕ). sum xs % 65536) (sym front)

pub text_passes : (f : Frame) → IsFrame f → PassesAll (frame_text f)
unfolding frame_text
text_passes f fits =
    (before_cut f (to_be_bytes w16 (sum (head_slots f ++ f.body) % 65536)) fits.body refl, sum_passes (head_slots f ++ f.body) (to_be_bytes w16 (sum (head_slots f ++ f.body) % 65536)) refl)

-- ---- what decode says

pub few_slots : (t : List ℕ) → PassesAll t → slice_index t 2 < 256 → slice_index t 23 ≤ 231
few_slots t ok byte = omega (arith, ok.0.4)

pub not_faulty : (e : FrameError) (t : List ℕ) → PassesAll t → IsFirstFault e t → ⊥
not_faulty Short t ok h = h.1 ok.0.0
not_faulty Start t ok h = h.1 ok.0.1
not_faulty SubStart t ok h = h.1 ok.0.2
not_faulty Length t ok h = h.1 ok.0.3
not_faulty Pdl t ok h = h.1 ok.0.4
not_faulty Checksum t ok h = h.1 ok.1

some_at : (t : List ℕ) (f : Frame) (b : Bool) → b ≡ true → cond b (Some f) None ≡ Some f
some_at t f b e = rw e refl

pub some_in : (t : List ℕ) → IsBytes t → PassesAll t → frame_in t ≡ Some (frame_of t)
unfolding frame_in
some_in t fits ok = some_at t (frame_of t) (bytes_eq t (frame_text (frame_of t))) ((bytes_eq-Decides t (frame_text (frame_of t))).1 (sym (text_again t fits ok)))

-- the message length leaves no room for more parameter data
few_of_text : (t : List ℕ) → IsBytes t → t ≡ frame_text (frame_of t) → slice_index t 23 ≤ 231
unfolding frame_text head_slots frame_of
few_of_text t fits e =
    let second : slice_index t 2 ≡ 24 + length (take (slice_index t 23) (drop 24 t)) = ap (λ (xs : List ℕ). slice_index xs 2) e in
    let last : slice_index t 23 ≡ length (take (slice_index t 23) (drop 24 t)) = ap (λ (xs : List ℕ). slice_index xs 23) e in
    omega (arith, fits 2)

pub passes_of_text : (t : List ℕ) → IsBytes t → t ≡ frame_text (frame_of t) → PassesAll t
passes_of_text t fits e = rw e (text_passes (frame_of t) (frame_fits t fits (few_of_text t fits e)))

none_at : (f : Frame) (b : Bool) → (b ≡ true → ⊥) → None ≡ cond b (Some f) None
none_at f true h = absurd (h refl)
none_at f false h = refl

pub none_in : (t : List ℕ) → IsBytes t → (PassesAll t → ⊥) → None ≡ frame_in t
unfolding frame_in
none_in t fits fails = none_at (frame_of t) (bytes_eq t (frame_text (frame_of t))) (λ e. fails (passes_of_text t fits ((bytes_eq-Decides t (frame_text (frame_of t))).0 e)))

-- ---- the laws

pub one_frame : (f g : Frame) → IsFrame f → IsFrame g → frame_text f ≡ frame_text g → f ≡ g
one_frame f g fits fits' e = sym (frame_again f fits) ∙ ap frame_of e ∙ frame_again g fits'

head_len : (f : Frame) (rest : List ℕ) → length (head_slots f ++ rest) ≡ 24 + length rest
unfolding head_slots
head_len f rest = omega arith

data_at : (slots body end : List ℕ) (n : ℕ) → length slots ≡ n → slice_range ((slots ++ body) ++ end) n (n + length body) ≡ body
data_at slots body end n e =
    let k : n + length body - n ≡ length body = omega arith in
    rw (k, append_assoc slots body end, drop_at slots (body ++ end) n e) (take_at body end (length body) refl)

end_at : (slots end : List ℕ) (n m : ℕ) → length slots ≡ n → length end + n ≡ m → slice_range (slots ++ end) n m ≡ end
end_at slots end n m e k =
    let left : m - n ≡ length end = omega arith in
    rw (left, drop_at slots end n e) (take_all (length end) end (omega arith))

sum_at : (slots end : List ℕ) (n : ℕ) → length slots ≡ n → to_be_bytes w16 (sum slots % 65536) ≡ to_be_bytes w16 (sum (take n (slots ++ end)) % 65536)
sum_at slots end n e = ap (λ (xs : List ℕ). to_be_bytes w16 (sum xs % 65536)) (sym (take_at slots end n e))

slots_cut : (f : Frame) (end : List ℕ) → end ≡ to_be_bytes w16 (sum (head_slots f ++ f.body) % 65536) → HasSlots f ((head_slots f ++ f.body) ++ end)
unfolding head_slots
slots_cut f end e =
    let two : length end ≡ 2 = ap length e in
    let front = head_len f f.body in
    record {
      slots = omega (arith, length-append f.body end);
      start_code = refl;
      sub_start_code = refl;
      message_length = refl;
      destination = refl;
      source = refl;
      transaction_number = refl;
      port_or_response_type = refl;
      message_count = refl;
      sub_device = refl;
      command_class = refl;
      parameter_id = refl;
      parameter_data_length = refl;
      parameter_data = data_at (head_slots f) f.body end 24 refl;
      checksum = end_at (head_slots f ++ f.body) end (24 + length f.body) (26 + length f.body) front (omega (arith, two)) ∙ e ∙ sum_at (head_slots f ++ f.body) end (24 + length f.body) front;
    }

pub has_slots : (f : Frame) → IsFrame f → HasSlots f (frame_text f)
unfolding frame_text
has_slots f fits = slots_cut f (to_be_bytes w16 (sum (head_slots f ++ f.body) % 65536)) refl
