-- Bytes that rise: an area whose check isn't too low holds no other image then.
use Rattle.std.proofs.Common.{◌≡◌, ℕ, zero, suc, ◌+◌, ◌<◌, ◌≤◌, List, [], ◌∷◌, length, get_or, take, drop, refl, sym, ap, ◌∙◌, arith, sum}
use Rattle.std.proofs.lemmas.List.Sums.{sum_by-cons}
use Rattle.rdm_frame.specs.Reading.{word_at, long_at}
use Rattle.rdm_images.specs.Areas.{Rises}
use Rattle.rdm_images.specs.Reading.{total, payload_at}
use Rattle.rdm_images.proofs.Parts.{AreBytes, at_part, word_is, long_is}

pub rises-length : (xs ys : List ℕ) → Rises xs ys → length xs ≡ length ys
rises-length [] [] h = refl
rises-length [] (y ∷ ys) h = absurd h
rises-length (x ∷ xs) [] h = absurd h
rises-length (x ∷ xs) (y ∷ ys) h = omega (arith, rises-length xs ys h.2)

pub rises-at : (xs ys : List ℕ) (i : ℕ) → Rises xs ys → get_or xs i 0 ≤ get_or ys i 0
rises-at [] [] i h = omega arith
rises-at [] (y ∷ ys) i h = absurd h
rises-at (x ∷ xs) [] i h = absurd h
rises-at (x ∷ xs) (y ∷ ys) zero h = h.0
rises-at (x ∷ xs) (y ∷ ys) (suc i) h = rises-at xs ys i h.2

pub rises-bytes : (xs ys : List ℕ) → Rises xs ys → AreBytes ys
rises-bytes [] [] h i = omega arith
rises-bytes [] (y ∷ ys) h i = absurd h
rises-bytes (x ∷ xs) [] h i = absurd h
rises-bytes (x ∷ xs) (y ∷ ys) h zero = h.1
rises-bytes (x ∷ xs) (y ∷ ys) h (suc i) = rises-bytes xs ys h.2 i

pub rises-drop : (n : ℕ) (xs ys : List ℕ) → Rises xs ys → Rises (drop n xs) (drop n ys)
rises-drop zero xs ys h = h
rises-drop (suc n) [] [] h = h
rises-drop (suc n) [] (y ∷ ys) h = absurd h
rises-drop (suc n) (x ∷ xs) [] h = absurd h
rises-drop (suc n) (x ∷ xs) (y ∷ ys) h = rises-drop n xs ys h.2

pub rises-take : (n : ℕ) (xs ys : List ℕ) → Rises xs ys → Rises (take n xs) (take n ys)
rises-take zero xs ys h = tt
rises-take (suc n) [] [] h = h
rises-take (suc n) [] (y ∷ ys) h = absurd h
rises-take (suc n) (x ∷ xs) [] h = absurd h
rises-take (suc n) (x ∷ xs) (y ∷ ys) h = (h.0, h.1, rises-take n xs ys h.2)

sum_cons : (x : ℕ) (xs : List ℕ) → sum (x ∷ xs) ≡ x + sum xs
sum_cons x xs = sum_by-cons (λ n. n) x xs

take_cons : (n x : ℕ) (xs : List ℕ) → sum (take (suc n) (x ∷ xs)) ≡ x + sum (take n xs)
take_cons n x xs = sum_by-cons (λ m. m) x (take n xs)

pub sum-le : (xs ys : List ℕ) → Rises xs ys → sum xs ≤ sum ys
sum-le [] [] h = omega arith
sum-le [] (y ∷ ys) h = absurd h
sum-le (x ∷ xs) [] h = absurd h
sum-le (x ∷ xs) (y ∷ ys) h = omega (arith, h.0, sum-le xs ys h.2, sum_cons x xs, sum_cons y ys)

cons_same : (x y : ℕ) (xs ys : List ℕ) → x ≡ y → xs ≡ ys → x ∷ xs ≡ y ∷ ys
cons_same x y xs ys e f = rw (e, f) refl

pub sum-same : (xs ys : List ℕ) → Rises xs ys → sum ys ≤ sum xs → xs ≡ ys
sum-same [] [] h le = refl
sum-same [] (y ∷ ys) h le = absurd h
sum-same (x ∷ xs) [] h le = absurd h
sum-same (x ∷ xs) (y ∷ ys) h le =
    cons_same x y xs ys (omega (arith, h.0, le, sum-le xs ys h.2, sum_cons x xs, sum_cons y ys)) (sum-same xs ys h.2 (omega (arith, h.0, le, sum_cons x xs, sum_cons y ys)))

-- a longer part has no smaller sum
pub sum-longer : (m n : ℕ) (xs : List ℕ) → m ≤ n → sum (take m xs) ≤ sum (take n xs)
sum-longer zero n xs le = omega arith
sum-longer (suc m) zero xs le = absurd (omega arith)
sum-longer (suc m) (suc n) [] le = omega arith
sum-longer (suc m) (suc n) (x ∷ xs) le = omega (arith, sum-longer m n xs (omega arith), take_cons m x xs, take_cons n x xs)

pub word-le : (xs ys : List ℕ) (k : ℕ) → Rises xs ys → word_at xs k ≤ word_at ys k
word-le xs ys k h = omega (arith, word_is xs k, word_is ys k, rises-at xs ys (k + 0) h, rises-at xs ys (k + 1) h)

pub long-le : (xs ys : List ℕ) (k : ℕ) → Rises xs ys → long_at xs k ≤ long_at ys k
long-le xs ys k h =
    omega (arith, long_is xs k, long_is ys k, rises-at xs ys (k + 0) h, rises-at xs ys (k + 1) h, rises-at xs ys (k + 2) h, rises-at xs ys (k + 3) h)

fields-le : (xs ys : List ℕ) → Rises xs ys → sum (take 8 (drop 4 xs)) ≤ sum (take 8 (drop 4 ys))
fields-le xs ys h = sum-le _ _ (rises-take 8 _ _ (rises-drop 4 xs ys h))

payload-le : (xs ys : List ℕ) (n : ℕ) → Rises xs ys → sum (take n (drop 12 xs)) ≤ sum (take n (drop 12 ys))
payload-le xs ys n h = sum-le _ _ (rises-take n _ _ (rises-drop 12 xs ys h))

-- bytes that rise raise the check and the sum
pub total-le : (xs ys : List ℕ) → Rises xs ys → total xs ≤ total ys
total-le xs ys h =
    omega (arith, long-le xs ys 0 h, fields-le xs ys h, payload-le xs ys (word_at xs 10) h, sum-longer (word_at xs 10) (word_at ys 10) (drop 12 ys) (word-le xs ys 10 h))

-- where they don't, the bytes of the image are the same
pub record AreSame (xs ys : List ℕ) : Type 0 where
  pub check : long_at xs 0 ≡ long_at ys 0
  pub fields : take 8 (drop 4 xs) ≡ take 8 (drop 4 ys)
  pub payload : take (word_at ys 10) (drop 12 xs) ≡ take (word_at ys 10) (drop 12 ys)

pub total-same : (xs ys : List ℕ) → Rises xs ys → total ys ≤ total xs → AreSame xs ys
total-same xs ys h le =
    let check = long-le xs ys 0 h in
    let fields = fields-le xs ys h in
    let payload = payload-le xs ys (word_at ys 10) h in
    let longer = sum-longer (word_at xs 10) (word_at ys 10) (drop 12 xs) (word-le xs ys 10 h) in
    record {
      check = omega (arith, check, fields, payload, longer, le);
      fields = sum-same _ _ (rises-take 8 _ _ (rises-drop 4 xs ys h)) (omega (arith, check, fields, payload, longer, le));
      payload = sum-same _ _ (rises-take (word_at ys 10) _ _ (rises-drop 12 xs ys h)) (omega (arith, check, fields, payload, longer, le));
    }

-- a byte of the key, of the counter or of the length
pub field_at : (xs ys : List ℕ) (i : ℕ) → AreSame xs ys → i < 8 → get_or xs (4 + i) 0 ≡ get_or ys (4 + i) 0
field_at xs ys i same lt = sym (at_part 8 4 i xs lt) ∙ ap (λ (t : List ℕ). get_or t i 0) same.fields ∙ at_part 8 4 i ys lt

pub key_same : (xs ys : List ℕ) → AreSame xs ys → long_at xs 4 ≡ long_at ys 4
key_same xs ys same =
    omega (arith, long_is xs 4, long_is ys 4, field_at xs ys 0 same (omega arith), field_at xs ys 1 same (omega arith), field_at xs ys 2 same (omega arith), field_at xs ys 3 same (omega arith))

pub counter_same : (xs ys : List ℕ) → AreSame xs ys → word_at xs 8 ≡ word_at ys 8
counter_same xs ys same = omega (arith, word_is xs 8, word_is ys 8, field_at xs ys 4 same (omega arith), field_at xs ys 5 same (omega arith))

pub length_same : (xs ys : List ℕ) → AreSame xs ys → word_at xs 10 ≡ word_at ys 10
length_same xs ys same = omega (arith, word_is xs 10, word_is ys 10, field_at xs ys 6 same (omega arith), field_at xs ys 7 same (omega arith))

pub payload_same : (xs ys : List ℕ) → AreSame xs ys → payload_at xs ≡ payload_at ys
payload_same xs ys same = ap (λ (n : ℕ). take n (drop 12 xs)) (length_same xs ys same) ∙ same.payload
