-- An image that is cut, or in which a byte is another, is none.
use Rattle.std.proofs.Common.{◌≡◌, ◌≢◌, ℕ, zero, suc, ◌+◌, ◌-◌, ◌<◌, ◌≤◌, List, [], ◌∷◌, ◌++◌, length, get_or, take, None, sym, ap, ◌∙◌, subst, arith, inl, inr, length-append}
use Rattle.std.specs.Prelude.{slice_index, slice_set}
use Rattle.std.proofs.lemmas.Bool.{cases_lt}
use Rattle.std.proofs.lemmas.List.{get_or-take, length-take, get_or_append_left, get_or-set_same, append-nil}
use Rattle.rdm_frame.specs.Reading.{word_at, long_at}
use Rattle.rdm_images.specs.declared.decoding.ImageError.TheVariants.{Cut}
use Rattle.rdm_images.specs.ImageText.{image_text, IsImage}
use Rattle.rdm_images.specs.Areas.{Rises}
use Rattle.rdm_images.specs.Reading.{held, Passes, PassesAll, IsFirstFault}
use Rattle.rdm_images.proofs.Parts.{AreBytes, at_part, word_is, long_is}
use Rattle.rdm_images.proofs.Rising.{AreSame, field_at, length_same, rises-at, total-same}
use Rattle.rdm_images.proofs.Holding.{held_none}
use Rattle.rdm_images.proofs.Texts.{text_length, text_len, text_passes, text_bytes, len_behind}

-- ---- a byte of an image whose bytes rise without its sum

check_at : (xs ys : List ℕ) (k : ℕ) → Rises xs ys → long_at xs 0 ≡ long_at ys 0 → k < 4 → get_or xs k 0 ≡ get_or ys k 0
check_at xs ys zero h e lt = omega (arith, long_is xs 0, long_is ys 0, e, rises-at xs ys 0 h, rises-at xs ys 1 h, rises-at xs ys 2 h, rises-at xs ys 3 h)
check_at xs ys (suc zero) h e lt = omega (arith, long_is xs 0, long_is ys 0, e, rises-at xs ys 0 h, rises-at xs ys 1 h, rises-at xs ys 2 h, rises-at xs ys 3 h)
check_at xs ys (suc (suc zero)) h e lt = omega (arith, long_is xs 0, long_is ys 0, e, rises-at xs ys 0 h, rises-at xs ys 1 h, rises-at xs ys 2 h, rises-at xs ys 3 h)
check_at xs ys (suc (suc (suc zero))) h e lt = omega (arith, long_is xs 0, long_is ys 0, e, rises-at xs ys 0 h, rises-at xs ys 1 h, rises-at xs ys 2 h, rises-at xs ys 3 h)
check_at xs ys (suc (suc (suc (suc k)))) h e lt = absurd (omega arith)

field_again : (xs ys : List ℕ) (k : ℕ) → AreSame xs ys → 4 ≤ k → k < 12 → get_or xs k 0 ≡ get_or ys k 0
field_again xs ys k same le lt =
    let e : 4 + (k - 4) ≡ k = omega arith in
    ap (λ (i : ℕ). get_or xs i 0) (sym e) ∙ field_at xs ys (k - 4) same (omega arith) ∙ ap (λ (i : ℕ). get_or ys i 0) e

payload_again : (xs ys : List ℕ) (k : ℕ) → AreSame xs ys → 12 ≤ k → k < 12 + word_at ys 10 → get_or xs k 0 ≡ get_or ys k 0
payload_again xs ys k same le lt =
    let e : 12 + (k - 12) ≡ k = omega arith in
    ap (λ (i : ℕ). get_or xs i 0) (sym e) ∙ sym (at_part (word_at ys 10) 12 (k - 12) xs (omega arith)) ∙ ap (λ (t : List ℕ). get_or t (k - 12) 0) same.payload ∙ at_part (word_at ys 10) 12 (k - 12) ys (omega arith) ∙ ap (λ (i : ℕ). get_or ys i 0) e

byte_same : (xs ys : List ℕ) (k : ℕ) → Rises xs ys → AreSame xs ys → k < 12 + word_at ys 10 → get_or xs k 0 ≡ get_or ys k 0
byte_same xs ys k h same lt =
    elim (cases_lt k 4) [
      | inl low ↦ check_at xs ys k h same.check low
      | inr high ↦ elim (cases_lt k 12) [
        | inl low ↦ field_again xs ys k same high low
        | inr past ↦ payload_again xs ys k same past lt
      ]
    ]

-- ---- a byte is set

rises-self : (xs : List ℕ) → AreBytes xs → Rises xs xs
rises-self [] h = tt
rises-self (x ∷ xs) h = (omega arith, h 0, rises-self xs (λ i. h (suc i)))

rises-up : (xs : List ℕ) (k v : ℕ) → AreBytes xs → v < 256 → get_or xs k 0 ≤ v → Rises xs (slice_set xs k v)
rises-up [] k v h lt le = tt
rises-up (x ∷ xs) zero v h lt le = (le, lt, rises-self xs (λ i. h (suc i)))
rises-up (x ∷ xs) (suc k) v h lt le = (omega arith, h 0, rises-up xs k v (λ i. h (suc i)) lt le)

rises-down : (xs : List ℕ) (k v : ℕ) → AreBytes xs → v ≤ get_or xs k 0 → Rises (slice_set xs k v) xs
rises-down [] k v h le = tt
rises-down (x ∷ xs) zero v h le = (le, h 0, rises-self xs (λ i. h (suc i)))
rises-down (x ∷ xs) (suc k) v h le = (omega arith, h 0, rises-down xs k v (λ i. h (suc i)) le)

-- ---- the laws

-- an image of a list of bytes holds no other one with a byte changed
altered_passes : (key k v : ℕ) (t : List ℕ) → AreBytes t → PassesAll key t → k < 12 + word_at t 10 → k < length t → v < 256 → v ≢ get_or t k 0 → PassesAll key (slice_set t k v) → ⊥
altered_passes key k v t bytes ok within short byte differs ok' =
    let set : get_or (slice_set t k v) k 0 ≡ v = get_or-set_same t k v 0 short in
    elim (cases_lt v (get_or t k 0)) [
      | inl lower ↦
          let h : Rises (slice_set t k v) t = rises-down t k v bytes (omega (arith, lower)) in
          differs (sym set ∙ byte_same _ t k h (total-same _ t h (omega (arith, ok.0.1, ok'.0.1))) within)
      | inr higher ↦
          let h : Rises t (slice_set t k v) = rises-up t k v bytes byte higher in
          let same = total-same t _ h (omega (arith, ok.0.1, ok'.0.1)) in
          differs (sym set ∙ sym (byte_same t _ k h same (omega (arith, within, length_same t _ same))))
    ]

word_in_front : (t : List ℕ) (n : ℕ) → 12 ≤ n → word_at (take n t) 10 ≡ word_at t 10
word_in_front t n le =
    omega (arith, word_is t 10, word_is (take n t) 10, get_or-take n t 10 0 (omega arith), get_or-take n t 11 0 (omega arith))

cut_short : (key n : ℕ) (t : List ℕ) → PassesAll key t → length t ≡ 12 + word_at t 10 → n < length t → Passes Cut key (take n t) → ⊥
cut_short key n t ok len lt cut =
    let front : length (take n t) ≤ n = omega (arith, length-take n t) in
    absurd (omega (arith, front, cut.0, cut.1, word_in_front t n (omega (arith, front, cut.0)), len, lt))

pub cut_is_refused : (key counter n : ℕ) (payload : List ℕ) → IsImage key counter payload → n < length (image_text key counter payload)
    → IsFirstFault Cut key (take n (image_text key counter payload)) × (held key (take n (image_text key counter payload)) ≡ None)
cut_is_refused key counter n payload fits lt =
    let ok : PassesAll key (image_text key counter payload) = subst (PassesAll key) (append-nil (image_text key counter payload)) (text_passes key counter payload [] fits) in
    let len : length (image_text key counter payload) ≡ 12 + word_at (image_text key counter payload) 10 = text_len key counter payload fits in
    ((tt, cut_short key n _ ok len lt), held_none key _ (λ front. cut_short key n _ ok len lt front.0.0))

pub altered_is_refused : (key counter k byte : ℕ) (payload rest : List ℕ) → IsImage key counter payload → ((i : ℕ) → slice_index rest i < 256)
    → k < length (image_text key counter payload) → byte < 256 → byte ≢ slice_index (image_text key counter payload) k
    → held key (slice_set (image_text key counter payload ++ rest) k byte) ≡ None
altered_is_refused key counter k byte payload rest fits bytes lt small differs =
    let at : get_or (image_text key counter payload ++ rest) k 0 ≡ get_or (image_text key counter payload) k 0 = get_or_append_left (image_text key counter payload) rest 0 k lt in
    held_none key _ (altered_passes key k byte (image_text key counter payload ++ rest) (text_bytes key counter payload rest fits bytes) (text_passes key counter payload rest fits)
    (omega (arith, lt, text_length key counter payload, len_behind key counter payload rest fits)) (omega (arith, lt, length-append (image_text key counter payload) rest)) small (λ e. differs (e ∙ at)))
