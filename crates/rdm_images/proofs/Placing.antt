-- What the areas of a disk hold where bytes were put, or put in part.
use Rattle.std.proofs.Common.{◌≡◌, ℕ, zero, suc, ◌+◌, ◌-◌, ◌<◌, ◌≤◌, ◌⊎◌, List, [], ◌∷◌, ◌++◌, length, get_or, take, drop, replicate, refl, sym, ap, subst, ◌∙◌, arith, inl, inr, length-append}
use Rattle.std.specs.Prelude.{slice_index}
use Rattle.std.proofs.lemmas.Bool.{cases_lt}
use Rattle.std.proofs.lemmas.List.{get_or-drop, get_or-take, length-take, length-drop, length-replicate, get_or-replicate, get_or_append_left, get_or-append_right, ext_get_or}
use Rattle.rdm_images.specs.declared.memory.Side.{Side}
use Rattle.rdm_images.specs.declared.memory.Side.TheVariants.{First, Second}
use Rattle.rdm_images.specs.Areas.{other, Rises, IsErased}
use Rattle.rdm_images.specs.Disks.{IsDisk, IsBetween, IsTorn, place_of, areas_in, put_in}
use Rattle.rdm_images.proofs.Parts.{AreBytes, at_part, bytes-drop, bytes-take}
use Rattle.rdm_images.proofs.Texts.{bytes-append}

-- ---- a byte of a disk that bytes were put in

before : (p : ℕ) (bytes disk : List ℕ) (i : ℕ) → p ≤ length disk → i < p → get_or (put_in p bytes disk) i 0 ≡ get_or disk i 0
before p bytes disk i room lt =
    get_or_append_left (take p disk) (bytes ++ drop (p + length bytes) disk) 0 i (omega (arith, lt, room, length-take p disk)) ∙ get_or-take p disk i 0 lt

past : (p : ℕ) (bytes disk : List ℕ) (k : ℕ) → p ≤ length disk → get_or (put_in p bytes disk) (p + k) 0 ≡ get_or (bytes ++ drop (p + length bytes) disk) k 0
past p bytes disk k room =
    let e : p + k - p ≡ k = omega arith in
    get_or-append_right (take p disk) (bytes ++ drop (p + length bytes) disk) p (p + k) 0 (omega (arith, room, length-take p disk)) (omega arith) ∙ ap (λ (j : ℕ). get_or (bytes ++ drop (p + length bytes) disk) j 0) e

within : (p : ℕ) (bytes disk : List ℕ) (k : ℕ) → p ≤ length disk → k < length bytes → get_or (put_in p bytes disk) (p + k) 0 ≡ get_or bytes k 0
within p bytes disk k room lt = past p bytes disk k room ∙ get_or_append_left bytes (drop (p + length bytes) disk) 0 k lt

behind : (p : ℕ) (bytes disk : List ℕ) (k : ℕ) → p ≤ length disk → length bytes ≤ k → get_or (put_in p bytes disk) (p + k) 0 ≡ get_or disk (p + k) 0
behind p bytes disk k room le =
    let e : p + length bytes + (k - length bytes) ≡ p + k = omega (arith, le) in
    past p bytes disk k room ∙ get_or-append_right bytes (drop (p + length bytes) disk) (length bytes) k 0 refl le ∙ get_or-drop (p + length bytes) disk (k - length bytes) 0 ∙ ap (λ (j : ℕ). get_or disk j 0) e

put_length : (p : ℕ) (bytes disk : List ℕ) → p + length bytes ≤ length disk → length (put_in p bytes disk) ≡ length disk
put_length p bytes disk room =
    omega (arith, room, length-append (take p disk) (bytes ++ drop (p + length bytes) disk), length-append bytes (drop (p + length bytes) disk), length-take p disk, length-drop (p + length bytes) disk)

-- ---- the areas

place_room : (s : Side) → place_of s + 36864 ≤ 73728
place_room First = omega arith
place_room Second = omega arith

area_length : (disk : List ℕ) (s : Side) → length disk ≡ 73728 → length (areas_in disk s) ≡ 36864
area_length disk s size = omega (arith, size, place_room s, length-take 36864 (drop (place_of s) disk), length-drop (place_of s) disk)

-- where bytes were put, and behind them
in_area : (s : Side) (bytes disk : List ℕ) (k : ℕ) → length disk ≡ 73728 → length bytes ≤ 36864 → k < 36864
    → get_or (areas_in (put_in (place_of s) bytes disk) s) k 0 ≡ get_or (bytes ++ drop (length bytes) (areas_in disk s)) k 0
in_area s bytes disk k size room lt =
    let start : place_of s ≤ length disk = omega (arith, size, place_room s) in
    elim (cases_lt k (length bytes)) [
      | inl low ↦ at_part 36864 (place_of s) k _ lt ∙ within (place_of s) bytes disk k start low ∙ sym (get_or_append_left bytes (drop (length bytes) (areas_in disk s)) 0 k low)
      | inr high ↦
          let e : length bytes + (k - length bytes) ≡ k = omega (arith, high) in
          at_part 36864 (place_of s) k _ lt ∙ behind (place_of s) bytes disk k start high ∙ sym (at_part 36864 (place_of s) k disk lt)
          ∙ ap (λ (j : ℕ). get_or (areas_in disk s) j 0) (sym e) ∙ sym (get_or-drop (length bytes) (areas_in disk s) (k - length bytes) 0) ∙ sym (get_or-append_right bytes (drop (length bytes) (areas_in disk s)) (length bytes) k 0 refl high)
    ]

after_length : (s : Side) (bytes disk : List ℕ) → length disk ≡ 73728 → length bytes ≤ 36864 → length (bytes ++ drop (length bytes) (areas_in disk s)) ≡ 36864
after_length s bytes disk size room =
    omega (arith, room, area_length disk s size, length-append bytes (drop (length bytes) (areas_in disk s)), length-drop (length bytes) (areas_in disk s))

pub put_in_area : (s : Side) (bytes disk : List ℕ) → IsDisk disk → length bytes ≤ 36864 → areas_in (put_in (place_of s) bytes disk) s ≡ bytes ++ drop (length bytes) (areas_in disk s)
put_in_area s bytes disk d room =
    let put : length (put_in (place_of s) bytes disk) ≡ 73728 = put_length (place_of s) bytes disk (omega (arith, room, place_room s, d.size)) ∙ d.size in
    let len : length (areas_in (put_in (place_of s) bytes disk) s) ≡ 36864 = area_length _ s put in
    ext_get_or 0 (areas_in (put_in (place_of s) bytes disk) s) (bytes ++ drop (length bytes) (areas_in disk s)) (omega (arith, len, after_length s bytes disk d.size room)) (λ k lt. in_area s bytes disk k d.size room (omega (arith, lt, len)))

-- the other area isn't touched
outside : (s : Side) (bytes disk : List ℕ) (k : ℕ) → length disk ≡ 73728 → length bytes ≤ 36864 → k < 36864
    → get_or (put_in (place_of s) bytes disk) (place_of (other s) + k) 0 ≡ get_or disk (place_of (other s) + k) 0
outside First bytes disk k size room lt =
    let e : 0 + (36864 + k) ≡ 36864 + k = omega arith in
    subst (λ (j : ℕ). get_or (put_in 0 bytes disk) j 0 ≡ get_or disk j 0) e (behind 0 bytes disk (36864 + k) (omega arith) (omega (arith, room)))
outside Second bytes disk k size room lt =
    let e : k ≡ 0 + k = omega arith in
    subst (λ (j : ℕ). get_or (put_in 36864 bytes disk) j 0 ≡ get_or disk j 0) e (before 36864 bytes disk k (omega (arith, size)) lt)

squeezed : (a b byte : ℕ) → b ≡ a → IsBetween a b byte → byte ≡ a
squeezed a b byte e (inl h) = omega (arith, e, h.0, h.1)
squeezed a b byte e (inr h) = omega (arith, e, h.0, h.1)

pub other_stays : (s : Side) (bytes old left : List ℕ) → IsDisk old → IsDisk left → length bytes ≤ 36864 → IsTorn old (put_in (place_of s) bytes old) left
    → areas_in left (other s) ≡ areas_in old (other s)
other_stays s bytes old left d e room torn =
    let len : length (areas_in left (other s)) ≡ 36864 = area_length left (other s) e.size in
    ext_get_or 0 (areas_in left (other s)) (areas_in old (other s)) (omega (arith, len, area_length old (other s) d.size)) (λ k lt.
    let low : k < 36864 = omega (arith, lt, len) in
    at_part 36864 (place_of (other s)) k left low
    ∙ squeezed _ _ _ (outside s bytes old k d.size room low) (torn (place_of (other s) + k))
    ∙ sym (at_part 36864 (place_of (other s)) k old low))

after_small : (s : Side) (bytes disk : List ℕ) (k : ℕ) → AreBytes bytes → IsDisk disk → k < 36864 → get_or (bytes ++ drop (length bytes) (areas_in disk s)) k 0 < 256
after_small s bytes disk k small d lt = bytes-append bytes (drop (length bytes) (areas_in disk s)) small (bytes-drop (length bytes) (areas_in disk s) (bytes-take 36864 (drop (place_of s) disk) (bytes-drop (place_of s) disk d.byte))) k

-- ---- what rises

abbrev AtLeast : List ℕ → List ℕ → Type 0
AtLeast xs ys = (i : ℕ) → i < length xs → (get_or xs i 0 ≤ get_or ys i 0) × (get_or ys i 0 < 256)

rises_each : (xs ys : List ℕ) → length xs ≡ length ys → AtLeast xs ys → Rises xs ys
rises_each [] [] e h = tt
rises_each [] (y ∷ ys) e h = absurd (omega (arith, e))
rises_each (x ∷ xs) [] e h = absurd (omega (arith, e))
rises_each (x ∷ xs) (y ∷ ys) e h = ((h 0 (omega arith)).0, (h 0 (omega arith)).1, rises_each xs ys (omega (arith, e)) (λ i lt. h (suc i) (omega (arith, lt))))

-- a byte that was erased, and one that becomes so
from_erased : (old wanted left : ℕ) → old ≡ 255 → wanted < 256 → left < 256 → IsBetween old wanted left → wanted ≤ left
from_erased old wanted left e small fits (inl h) = omega (arith, e, small, fits, h.0, h.1)
from_erased old wanted left e small fits (inr h) = h.0

to_erased : (old wanted left : ℕ) → wanted ≡ 255 → old < 256 → left < 256 → IsBetween old wanted left → old ≤ left
to_erased old wanted left e small fits (inl h) = h.0
to_erased old wanted left e small fits (inr h) = omega (arith, e, small, fits, h.0, h.1)

erased_byte : (xs : List ℕ) (k : ℕ) → IsErased xs → k < length xs → get_or xs k 0 ≡ 255
erased_byte xs k h lt = h k 0 lt

-- an area is erased, whole or in part
pub erase_rises : (s : Side) (bytes old left : List ℕ) → IsDisk old → IsDisk left → length bytes ≡ 36864 → IsErased bytes
    → IsTorn old (put_in (place_of s) bytes old) left → Rises (areas_in old s) (areas_in left s)
erase_rises s bytes old left d e room erased torn =
    let old_length : length (areas_in old s) ≡ 36864 = area_length old s d.size in
    rises_each (areas_in old s) (areas_in left s) (omega (arith, old_length, area_length left s e.size)) (λ i lt.
    let low : i < 36864 = omega (arith, lt, old_length) in
    let was : get_or (areas_in old s) i 0 ≡ get_or old (place_of s + i) 0 = at_part 36864 (place_of s) i old low in
    let is : get_or (areas_in left s) i 0 ≡ get_or left (place_of s + i) 0 = at_part 36864 (place_of s) i left low in
    let wanted : get_or (put_in (place_of s) bytes old) (place_of s + i) 0 ≡ 255 =
    within (place_of s) bytes old i (omega (arith, d.size, place_room s)) (omega (arith, low, room)) ∙ erased_byte bytes i erased (omega (arith, low, room)) in
    let rose = to_erased _ _ _ wanted (d.byte (place_of s + i)) (e.byte (place_of s + i)) (torn (place_of s + i)) in
    (omega (arith, was, is, rose), omega (arith, is, e.byte (place_of s + i))))

pub erased_area : (s : Side) (bytes disk : List ℕ) → IsDisk disk → length bytes ≡ 36864 → IsErased bytes → IsErased (areas_in (put_in (place_of s) bytes disk) s)
erased_area s bytes disk d room erased =
    rw (put_in_area s bytes disk d (omega (arith, room))) (λ k x lt.
    let low : k < length bytes = omega (arith, lt, room, after_length s bytes disk d.size (omega (arith, room))) in
    get_or_append_left bytes (drop (length bytes) (areas_in disk s)) x k low ∙ erased k x low)

-- bytes are written into an area that is erased, all or some
pub write_rises : (s : Side) (bytes old left : List ℕ) → AreBytes bytes → IsDisk old → IsDisk left → length bytes ≤ 36864 → IsErased (areas_in old s)
    → IsTorn old (put_in (place_of s) bytes old) left → Rises (bytes ++ drop (length bytes) (areas_in old s)) (areas_in left s)
write_rises s bytes old left small d e room erased torn =
    let front : length (bytes ++ drop (length bytes) (areas_in old s)) ≡ 36864 = after_length s bytes old d.size room in
    rises_each (bytes ++ drop (length bytes) (areas_in old s)) (areas_in left s) (omega (arith, front, area_length left s e.size)) (λ i lt.
    let low : i < 36864 = omega (arith, lt, front) in
    let was : get_or old (place_of s + i) 0 ≡ 255 = sym (at_part 36864 (place_of s) i old low) ∙ erased_byte (areas_in old s) i erased (omega (arith, low, area_length old s d.size)) in
    let is : get_or (areas_in left s) i 0 ≡ get_or left (place_of s + i) 0 = at_part 36864 (place_of s) i left low in
    let goal_is : get_or (put_in (place_of s) bytes old) (place_of s + i) 0 ≡ get_or (bytes ++ drop (length bytes) (areas_in old s)) i 0 =
    sym (at_part 36864 (place_of s) i _ low) ∙ in_area s bytes old i d.size room low in
    let fits : get_or (bytes ++ drop (length bytes) (areas_in old s)) i 0 < 256 = after_small s bytes old i small d low in
    let rose = from_erased _ _ _ was (omega (arith, goal_is, fits)) (e.byte (place_of s + i)) (torn (place_of s + i)) in
    (omega (arith, goal_is, is, rose), omega (arith, is, e.byte (place_of s + i))))

-- ---- as the calls of a disk say it

pub all_erased : (n : ℕ) → IsErased (replicate n 255)
all_erased n = λ k d lt. get_or-replicate n k 255 d (subst (λ (m : ℕ). k < m) (length-replicate n 255) lt)

pub replicate_length : (n byte : ℕ) → length (replicate n byte) ≡ n
replicate_length n byte = length-replicate n byte

torn_there : (s : Side) (p : ℕ) (bytes old left : List ℕ) → p ≡ place_of s → IsTorn old (put_in p bytes old) left → IsTorn old (put_in (place_of s) bytes old) left
torn_there s p bytes old left e h = subst (λ (q : ℕ). IsTorn old (put_in q bytes old) left) e h

put_there : (s : Side) (p : ℕ) (bytes old new : List ℕ) → p ≡ place_of s → new ≡ put_in p bytes old → new ≡ put_in (place_of s) bytes old
put_there s p bytes old new e h = subst (λ (q : ℕ). new ≡ put_in q bytes old) e h

pub area_is_read : (s : Side) (p n : ℕ) (buffer disk : List ℕ) → p ≡ place_of s → n ≡ 36864 → buffer ≡ take n (drop p disk) → buffer ≡ areas_in disk s
area_is_read s p n buffer disk e f h =
    subst (λ (q : ℕ). buffer ≡ take 36864 (drop q disk)) e (subst (λ (m : ℕ). buffer ≡ take m (drop p disk)) f h)

pub area_is_erased : (s : Side) (p : ℕ) (bytes old new : List ℕ) → p ≡ place_of s → IsDisk old → length bytes ≡ 36864 → IsErased bytes
    → new ≡ put_in p bytes old → IsErased (areas_in new s)
area_is_erased s p bytes old new e d room erased h =
    subst (λ (t : List ℕ). IsErased (areas_in t s)) (sym (put_there s p bytes old new e h)) (erased_area s bytes old d room erased)

pub area_is_written : (s : Side) (p : ℕ) (bytes old new : List ℕ) → p ≡ place_of s → IsDisk old → length bytes ≤ 36864
    → new ≡ put_in p bytes old → areas_in new s ≡ bytes ++ drop (length bytes) (areas_in old s)
area_is_written s p bytes old new e d room h =
    ap (λ (t : List ℕ). areas_in t s) (put_there s p bytes old new e h) ∙ put_in_area s bytes old d room

pub area_is_raised : (s : Side) (p : ℕ) (bytes old left : List ℕ) → p ≡ place_of s → IsDisk old → IsDisk left → length bytes ≡ 36864 → IsErased bytes
    → IsTorn old (put_in p bytes old) left → Rises (areas_in old s) (areas_in left s)
area_is_raised s p bytes old left e d d' room erased torn = erase_rises s bytes old left d d' room erased (torn_there s p bytes old left e torn)

pub area_is_torn : (s : Side) (p : ℕ) (bytes old left : List ℕ) → p ≡ place_of s → AreBytes bytes → IsDisk old → IsDisk left → length bytes ≤ 36864
    → IsErased (areas_in old s) → IsTorn old (put_in p bytes old) left → Rises (bytes ++ drop (length bytes) (areas_in old s)) (areas_in left s)
area_is_torn s p bytes old left e small d d' room erased torn = write_rises s bytes old left small d d' room erased (torn_there s p bytes old left e torn)

pub other_is_same : (s : Side) (p : ℕ) (bytes old left : List ℕ) → p ≡ place_of s → IsDisk old → IsDisk left → length bytes ≤ 36864
    → IsTorn old (put_in p bytes old) left → areas_in left (other s) ≡ areas_in old (other s)
other_is_same s p bytes old left e d d' room torn = other_stays s bytes old left d d' room (torn_there s p bytes old left e torn)
