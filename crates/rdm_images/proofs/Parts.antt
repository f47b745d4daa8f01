-- Parts of lists of bytes.
use Rattle.std.proofs.Common.{◌≡◌, ℕ, ◌+◌, ◌*◌, ◌<◌, List, get_or, take, drop, ◌∙◌, arith, inl, inr}
use Rattle.std.specs.Prelude.{slice_index}
use Rattle.std.proofs.lemmas.List.{get_or-drop, get_or-take, get_or_past, length-take}
use Rattle.std.proofs.lemmas.Bool.{cases_lt}
use Rattle.rdm_frame.specs.Reading.{word_at, long_at}

abbrev pub AreBytes : List ℕ → Type 0
AreBytes t = (i : ℕ) → slice_index t i < 256

pub bytes-drop : (n : ℕ) (t : List ℕ) → AreBytes t → AreBytes (drop n t)
bytes-drop n t h i = rw get_or-drop (h (n + i))

pub bytes-take : (n : ℕ) (t : List ℕ) → AreBytes t → AreBytes (take n t)
bytes-take n t h i =
    elim (cases_lt i n) [
      | inl lt ↦ rw (get_or-take n t i 0 lt) (h i)
      | inr le ↦ rw (get_or_past (take n t) i 0 (omega (arith, length-take n t))) (omega arith)
    ]

-- an element of a part
pub at_part : (n k i : ℕ) (t : List ℕ) → i < n → get_or (take n (drop k t)) i 0 ≡ get_or t (k + i) 0
at_part n k i t lt = get_or-take n (drop k t) i 0 lt ∙ get_or-drop k t i 0

-- the numbers of a header, from its bytes
pub word_is : (t : List ℕ) (k : ℕ) → word_at t k ≡ 256 * get_or t (k + 0) 0 + get_or t (k + 1) 0
word_is t k = omega (arith, at_part 2 k 0 t (omega arith), at_part 2 k 1 t (omega arith))

pub long_is : (t : List ℕ) (k : ℕ) → long_at t k ≡ 16777216 * get_or t (k + 0) 0 + 65536 * get_or t (k + 1) 0 + 256 * get_or t (k + 2) 0 + get_or t (k + 3) 0
long_is t k = omega (arith, at_part 4 k 0 t (omega arith), at_part 4 k 1 t (omega arith), at_part 4 k 2 t (omega arith), at_part 4 k 3 t (omega arith))
