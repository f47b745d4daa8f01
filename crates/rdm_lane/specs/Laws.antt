-- What follows from the lane law for each producer, in three sentences.
use Rattle.std.specs.Prelude.{◌≡◌, ℕ, ◌<◌, true, false, List, [], ◌∷◌, ◌++◌, filter, slice_index_or}
use Rattle.rdm_lane.specs.declared.taken.Taken.{Taken}
use Rattle.rdm_lane.specs.Lane.{is_from, of, is_item, items_from, numbered, has_mark, IsPrefix, LaneLaw}

module _ {T : Type 0} where
  -- the items of p that were taken are a prefix of its list, numbered from 0
  abbrev pub TakesAPrefix : ℕ → List (Taken T) → List T → Type 0
  TakesAPrefix p taken xs = IsPrefix (items_from p taken) xs × (filter is_item (of p taken) ≡ numbered p 0 (items_from p taken))

  -- no item and no mark of p follows the mark of p
  abbrev pub EndsAtItsMark : ℕ → List (Taken T) → Type 0
  EndsAtItsMark p taken =
      (before after : List (Taken T)) (e : Taken T) → taken ≡ before ++ e ∷ after → is_from p e ≡ true
      → has_mark p before ≡ false

  -- if the mark of p was taken, all of its list was
  abbrev pub IsWholeAtItsMark : ℕ → List (Taken T) → List T → Type 0
  IsWholeAtItsMark p taken xs = has_mark p taken ≡ true → items_from p taken ≡ xs

  -- it holds of every producer of a lane that keeps the lane law, with its list
  abbrev pub OfEachPost : (ℕ → List (Taken T) → List T → Type 0) → Type 0
  OfEachPost Sentence =
      (posts : ℕ) (taken : List (Taken T)) (posted : List (List T)) → LaneLaw posts taken posted
      → (p : ℕ) → p < posts → Sentence p taken (slice_index_or posted p [])
