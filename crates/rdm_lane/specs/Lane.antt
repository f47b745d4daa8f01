-- What the ends of a lane have put and taken, and the law between the two.
use Rattle.std.specs.Prelude.{◌≡◌, ℕ, ◌+◌, ◌<◌, ◌==◌, Bool, true, false, List, [], ◌∷◌, ◌++◌, filter, slice_index_or}
use Rattle.std.specs.List.{list_any}
use Rattle.rdm_lane.specs.declared.taken.Taken.{Taken}
use Rattle.rdm_lane.specs.declared.taken.Taken.TheVariants.{Item, Mark, Empty, Closed}

module _ {A : Type 0} where
  -- one list begins another
  abbrev pub IsPrefix : List A → List A → Type 0
  IsPrefix front all = (rest : List A) × (front ++ rest ≡ all)

module _ {T : Type 0} where
  -- it is an item or the mark of producer p
  abbrev pub is_from : ℕ → Taken T → Bool
  is_from p (Item q n x) = q == p
  is_from p (Mark q) = q == p
  is_from p Empty = false
  is_from p Closed = false

  -- the items and the mark of producer p, in order
  abbrev pub of : ℕ → List (Taken T) → List (Taken T)
  of p es = filter (is_from p) es

  abbrev pub is_item : Taken T → Bool
  is_item (Item q n x) = true
  is_item (Mark q) = false
  is_item Empty = false
  is_item Closed = false

  -- the items among them, in order, without their numbers
  unfoldable pub items_of : List (Taken T) → List T
  items_of [] = []
  items_of (Item q n x ∷ es) = x ∷ items_of es
  items_of (Mark q ∷ es) = items_of es
  items_of (Empty ∷ es) = items_of es
  items_of (Closed ∷ es) = items_of es

  -- the items of producer p
  abbrev pub items_from : ℕ → List (Taken T) → List T
  items_from p es = items_of (of p es)

  -- items of producer p, numbered from n on
  abbrev pub numbered : ℕ → ℕ → List T → List (Taken T)
  numbered p n [] = []
  numbered p n (x ∷ xs) = Item p n x ∷ numbered p (n + 1) xs

  -- what an open post p has put: its items, numbered from 0
  abbrev pub put_open : ℕ → List T → List (Taken T)
  put_open p xs = numbered p 0 xs

  -- what a closed post p has put: its items and then its mark
  abbrev pub put_closed : ℕ → List T → List (Taken T)
  put_closed p xs = numbered p 0 xs ++ Mark p ∷ []

  abbrev pub is_mark : Taken T → Bool
  is_mark (Item q n x) = false
  is_mark (Mark q) = true
  is_mark Empty = false
  is_mark Closed = false

  -- the mark of p stands among them
  abbrev pub has_mark : ℕ → List (Taken T) → Bool
  has_mark p es = list_any is_mark (of p es)

  -- the same of producers 0, 1 and 2
  abbrev pub marks_in : List (Taken T) → List Bool
  marks_in es = has_mark 0 es ∷ has_mark 1 es ∷ has_mark 2 es ∷ []

  -- The lane law: of each producer below `posts`, what was taken is a prefix of what its post put, which is its list,
  -- numbered from 0, and then its mark.
  abbrev pub LaneLaw : ℕ → List (Taken T) → List (List T) → Type 0
  LaneLaw posts taken posted = (p : ℕ) → p < posts → IsPrefix (of p taken) (put_closed p (slice_index_or posted p []))
