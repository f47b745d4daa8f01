-- What is left of an area where an erase or a write is cut off.
use Rattle.std.proofs.Common.{◌≡◌, ℕ, zero, suc, ◌<◌, ◌≤◌, List, [], ◌∷◌, ◌++◌, length, get_or, take, drop, arith}
use Rattle.std.specs.Prelude.{slice_index, slice_set}
use Rattle.rdm_images.specs.Areas.{Rises, IsErased}

abbrev AreBytes : List ℕ → Type 0
AreBytes t = (i : ℕ) → slice_index t i < 256

pub rises_self : (xs : List ℕ) → AreBytes xs → Rises xs xs
rises_self [] h = tt
rises_self (x ∷ xs) h = (omega arith, h 0, rises_self xs (λ i. h (suc i)))

rest_erased : (x : ℕ) (xs : List ℕ) → IsErased (x ∷ xs) → IsErased xs
rest_erased x xs h = λ k d lt. h (suc k) d (omega (arith, lt))

erased_first : (x : ℕ) (xs : List ℕ) → IsErased (x ∷ xs) → x ≡ 255
erased_first x xs h = h 0 0 (omega arith)

rises_erased : (xs : List ℕ) → IsErased xs → Rises xs xs
rises_erased [] h = tt
rises_erased (x ∷ xs) h = (omega arith, omega (arith, erased_first x xs h), rises_erased xs (rest_erased x xs h))

-- a byte is raised once more
pub rises_set : (xs ys : List ℕ) (k v : ℕ) → Rises xs ys → get_or xs k 0 ≤ v → v < 256 → Rises xs (slice_set ys k v)
rises_set [] [] k v h le lt = tt
rises_set [] (y ∷ ys) k v h le lt = absurd h
rises_set (x ∷ xs) [] k v h le lt = absurd h
rises_set (x ∷ xs) (y ∷ ys) zero v h le lt = (le, lt, h.2)
rises_set (x ∷ xs) (y ∷ ys) (suc k) v h le lt = (h.0, h.1, rises_set xs ys k v h.2 le lt)

-- the first n bytes are erased
pub rises_front : (n : ℕ) (xs all : List ℕ) → AreBytes xs → IsErased all → n ≤ length xs → n ≤ length all → Rises xs (take n all ++ drop n xs)
rises_front zero xs all h g few enough = rises_self xs h
rises_front (suc n) [] all h g few enough = absurd (omega (arith, few))
rises_front (suc n) (x ∷ xs) [] h g few enough = absurd (omega (arith, enough))
rises_front (suc n) (x ∷ xs) (y ∷ ys) h g few enough =
    (omega (arith, h 0, erased_first y ys g), omega (arith, erased_first y ys g), rises_front n xs ys (λ i. h (suc i)) (rest_erased y ys g) (omega (arith, few)) (omega (arith, enough)))

pub rises_whole : (xs all : List ℕ) → AreBytes xs → IsErased all → length xs ≡ length all → Rises xs all
rises_whole [] [] h g e = tt
rises_whole [] (y ∷ ys) h g e = absurd (omega (arith, e))
rises_whole (x ∷ xs) [] h g e = absurd (omega (arith, e))
rises_whole (x ∷ xs) (y ∷ ys) h g e =
    (omega (arith, h 0, erased_first y ys g), omega (arith, erased_first y ys g), rises_whole xs ys (λ i. h (suc i)) (rest_erased y ys g) (omega (arith, e)))

-- of the bytes that are written the first n are there
pub rises_written : (n : ℕ) (bytes xs : List ℕ) → AreBytes bytes → IsErased xs → n ≤ length bytes → length bytes ≤ length xs
    → Rises (bytes ++ drop (length bytes) xs) (take n bytes ++ drop n xs)
rises_written zero [] xs h g few room = rises_erased xs g
rises_written zero (b ∷ bs) [] h g few room = absurd (omega (arith, room))
rises_written zero (b ∷ bs) (x ∷ xs) h g few room =
    (omega (arith, h 0, erased_first x xs g), omega (arith, erased_first x xs g), rises_written zero bs xs (λ i. h (suc i)) (rest_erased x xs g) (omega arith) (omega (arith, room)))
rises_written (suc n) [] xs h g few room = absurd (omega (arith, few))
rises_written (suc n) (b ∷ bs) [] h g few room = absurd (omega (arith, room))
rises_written (suc n) (b ∷ bs) (x ∷ xs) h g few room =
    (omega arith, h 0, rises_written n bs xs (λ i. h (suc i)) (rest_erased x xs g) (omega (arith, few)) (omega (arith, room)))

pub rises_all_written : (bytes xs : List ℕ) → AreBytes bytes → IsErased xs → length bytes ≤ length xs
    → Rises (bytes ++ drop (length bytes) xs) (bytes ++ drop (length bytes) xs)
rises_all_written [] xs h g room = rises_erased xs g
rises_all_written (b ∷ bs) [] h g room = absurd (omega (arith, room))
rises_all_written (b ∷ bs) (x ∷ xs) h g room = (omega arith, h 0, rises_all_written bs xs (λ i. h (suc i)) (rest_erased x xs g) (omega (arith, room)))

pub bytes_of : (xs ys : List ℕ) → Rises xs ys → AreBytes ys
bytes_of [] [] h i = omega arith
bytes_of [] (y ∷ ys) h i = absurd h
bytes_of (x ∷ xs) [] h i = absurd h
bytes_of (x ∷ xs) (y ∷ ys) h zero = h.1
bytes_of (x ∷ xs) (y ∷ ys) h (suc i) = bytes_of xs ys h.2 i
