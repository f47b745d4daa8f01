-- A frame's text with one slot raised is no frame's text: one slot that moves by less than 256 moves the sum of the slots,
-- or the checksum, and never both.
use Rattle.std.proofs.Common.{◌≡◌, ℕ, zero, suc, ◌+◌, ◌-◌, ◌%◌, ◌<◌, ◌≤◌, List, [], ◌∷◌, ◌++◌, length, take, drop, None, refl, sym, ap, ◌∙◌, arith, length-append, inl, inr, rules}
use Rattle.std.specs.Prelude.{sum, slice_index, slice_set}
use Rattle.std.specs.Str.{bytes_eq}
use Rattle.std.specs.Int.{w16, to_be_bytes, from_be_bytes}
use Rattle.std.proofs.lemmas.Bool.{cases_lt, cases_Bool, cond-false}
use Rattle.std.proofs.lemmas.List.{take_at, drop_at, get_or_append_left, get_or-append_right, set-append_left, set-append_right, get_or-set_same, length-set}
use Rattle.std.proofs.lemmas.List.Sums.{sum_by-set}
use Rattle.std.proofs.lemmas.Nat.{from_be_bytes-to_be_bytes_2}
use Rattle.std.proofs.lemmas.Slice.Eq.{bytes_eq-Decides}
use Rattle.rdm_frame.specs.declared.frame.Frame.{Frame}
use Rattle.rdm_frame.specs.FrameText.{head_slots, with_checksum, frame_text, IsFrame}
use Rattle.rdm_frame.specs.Reading.{frame_of, frame_in}
use Rattle.rdm_frame.specs.Faults.{raised, altered}

abbrev checksum : List ℕ → List ℕ
checksum s = to_be_bytes w16 (sum s % 65536)

-- two lists with ends of two slots each are the same only where the fronts are and the ends are
parts_same : (s s' c c' : List ℕ) → length c ≡ 2 → length c' ≡ 2 → s ++ c ≡ s' ++ c' → (s ≡ s') × (c ≡ c')
parts_same s s' c c' two two' e =
    let n : length s ≡ length s' = omega (arith, length-append s c, length-append s' c', ap length e) in
    (sym (take_at s c (length s) refl) ∙ ap (take (length s)) e ∙ take_at s' c' (length s) (sym n), sym (drop_at s c (length s) refl) ∙ ap (drop (length s)) e ∙ drop_at s' c' (length s) (sym n))

sum_of_checksum : (s : List ℕ) → from_be_bytes w16 (checksum s) ≡ sum s % 65536
sum_of_checksum s = from_be_bytes-to_be_bytes_2 (sum s % 65536) (omega arith)

-- lists with one checksum have one sum, modulo 65536
sums_same : (s s' : List ℕ) → checksum s ≡ checksum s' → sum s % 65536 ≡ sum s' % 65536
sums_same s s' e = sym (sum_of_checksum s) ∙ ap (from_be_bytes w16) e ∙ sum_of_checksum s'

-- a slot before the checksum is raised
front_raised : (s s' : List ℕ) (k v : ℕ) → k < length s → slice_set (with_checksum s) k v ≡ with_checksum s' → sum s % 65536 ≡ sum (slice_set s k v) % 65536
front_raised s s' k v lt e =
    let parts = parts_same (slice_set s k v) s' (checksum s) (checksum s') refl refl (sym (set-append_left s (checksum s) k v lt) ∙ e) in
    sums_same s s' parts.1 ∙ ap (λ (xs : List ℕ). sum xs % 65536) (sym parts.0)

-- a slot of the checksum is raised
end_raised : (s s' : List ℕ) (k v : ℕ) → length s ≤ k → slice_set (with_checksum s) k v ≡ with_checksum s' → slice_set (checksum s) (k - length s) v ≡ checksum s
end_raised s s' k v ge e =
    let parts = parts_same s s' (slice_set (checksum s) (k - length s) v) (checksum s') (length-set (checksum s) (k - length s) v) refl (sym (set-append_right s (checksum s) (length s) k v refl ge) ∙ e) in
    parts.1 ∙ ap checksum (sym parts.0)

raised_is_no_text : (s s' : List ℕ) (k x : ℕ) → k < length s + 2 → slice_index (with_checksum s) k < 256 → 0 < x → x < 256 → raised (with_checksum s) k x ≡ with_checksum s' → ⊥
raised_is_no_text s s' k x within byte some small e =
    elim (cases_lt k (length s)) [
      | inl lt ↦
          let b : slice_index (with_checksum s) k ≡ slice_index s k = get_or_append_left s (checksum s) 0 k lt in
          omega (arith, b, byte, front_raised s s' k _ lt e, sum_by-set (λ n. n) s k ((slice_index (with_checksum s) k + x) % 256) 0 lt)
      | inr ge ↦
          let b : slice_index (with_checksum s) k ≡ slice_index (checksum s) (k - length s) = get_or-append_right s (checksum s) (length s) k 0 refl ge in
          let moved : (slice_index (with_checksum s) k + x) % 256 ≡ slice_index (checksum s) (k - length s) =
          sym (get_or-set_same (checksum s) (k - length s) _ 0 (omega arith)) ∙ ap (λ (xs : List ℕ). slice_index xs (k - length s)) (end_raised s s' k _ ge e) in
          omega (arith, b, byte, moved)
    ]

-- ---- each slot of a frame is a byte

abbrev AreBytes : List ℕ → Type 0
AreBytes [] = Unit {0}
AreBytes (x ∷ xs) = (x < 256) × AreBytes xs

AreBytes-append : (xs ys : List ℕ) → AreBytes xs → AreBytes ys → AreBytes (xs ++ ys)
AreBytes-append [] ys h g = g
AreBytes-append (x ∷ xs) ys h g = (h.0, AreBytes-append xs ys h.1 g)

AreBytes-at : (xs : List ℕ) (k : ℕ) → AreBytes xs → slice_index xs k < 256
AreBytes-at [] k h = omega arith
AreBytes-at (x ∷ xs) zero h = h.0
AreBytes-at (x ∷ xs) (suc k) h = AreBytes-at xs k h.1

AreBytes-from : (xs : List ℕ) → ((i : ℕ) → slice_index xs i < 256) → AreBytes xs
AreBytes-from [] h = tt
AreBytes-from (x ∷ xs) h = (h 0, AreBytes-from xs (λ i. h (suc i)))

head_bytes : (f : Frame) → IsFrame f → AreBytes (head_slots f)
unfolding head_slots
head_bytes f fits = search rules

text_bytes : (f : Frame) → IsFrame f → AreBytes (frame_text f)
unfolding frame_text
text_bytes f fits =
    AreBytes-append (head_slots f ++ f.body) (checksum (head_slots f ++ f.body)) (AreBytes-append (head_slots f) f.body (head_bytes f fits) (AreBytes-from f.body fits.data_slots)) (search rules)

-- ---- the law

pub text_length : (f : Frame) → length (frame_text f) ≡ length (head_slots f ++ f.body) + 2
unfolding frame_text
text_length f = length-append (head_slots f ++ f.body) (checksum (head_slots f ++ f.body))

raised_is_no_frames : (f g : Frame) (k x : ℕ) → k < length (frame_text f) → slice_index (frame_text f) k < 256 → 0 < x → x < 256 → raised (frame_text f) k x ≡ frame_text g → ⊥
unfolding frame_text
raised_is_no_frames f g k x within byte some small e =
    raised_is_no_text (head_slots f ++ f.body) (head_slots g ++ g.body) k x (omega (arith, within, length-append (head_slots f ++ f.body) (checksum (head_slots f ++ f.body)))) byte some small e

-- bytes that aren't the text of any frame are read as none
pub none_in : (t : List ℕ) → ((g : Frame) → t ≡ frame_text g → ⊥) → frame_in t ≡ None
unfolding frame_in
none_in t other_text =
    elim (cases_Bool (bytes_eq t (frame_text (frame_of t)))) [
      | inl same ↦ absurd (other_text (frame_of t) ((bytes_eq-Decides t (frame_text (frame_of t))).0 same))
      | inr other ↦ cond-false _ _ _ other
    ]

pub raised_is_no_frame : (f : Frame) (k x : ℕ) → k < length (frame_text f) → slice_index (frame_text f) k < 256 → 0 < x → x < 256 → frame_in (raised (frame_text f) k x) ≡ None
raised_is_no_frame f k x within byte some small = none_in _ (λ g e. raised_is_no_frames f g k x within byte some small e)

pub altered_is_no_frame : (f : Frame) (k x : ℕ) → IsFrame f → 0 < x → x < 256 → frame_in (altered (frame_text f) k x) ≡ None
altered_is_no_frame f k x fits some small =
    let some_slots : 0 < length (frame_text f) = omega (arith, text_length f) in
    let within : k % length (frame_text f) < length (frame_text f) = omega arith in
    raised_is_no_frame f (k % length (frame_text f)) x within (AreBytes-at (frame_text f) (k % length (frame_text f)) (text_bytes f fits)) some small
