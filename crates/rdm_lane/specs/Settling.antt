-- What is seen of a lane that was settled.
use Rattle.std.specs.Prelude.{◌≡◌, ℕ, ◌≤◌, List, [], slice_index_or, All, Option, Some, None, Vec, map}
use Rattle.rdm_lane.specs.declared.taken.Taken.{Taken}
use Rattle.rdm_lane.specs.Ends.{PostState}
use Rattle.rdm_lane.specs.Lane.{of}

-- the lists of a lane that was settled
pub record SettledState (T : Type 0) : Type 0 where
  pub taken : List (Taken T)
  pub posted : List (List T)

module _ {T : Type 0} where
  abbrev pub settled : List (Taken T) → List (List T) → SettledState T
  settled taken posted = record { taken = taken; posted = posted }

-- the list of a post, empty if there is none
abbrev pub list_or_none : {T Z : Type 0} → Option (Vec T Z) → List T
list_or_none None = []
list_or_none (Some v) = v.items

-- the lists of posts 0, 1 and 2
abbrev pub posted_in : {T Z : Type 0} → List (Option (Vec T Z)) → List (List T)
posted_in lists = map list_or_none lists

-- the lists of these posts are among them, each at its producer's number
abbrev pub HasLists : {T : Type 0} → List (List T) → List (PostState T) → Type 0
HasLists posted posts = All (λ c. slice_index_or posted c.producer [] ≡ c.items) posts

-- of a producer that isn't a post nothing was taken, and there is no list
abbrev pub HasNoOthers : {T : Type 0} → ℕ → List (Taken T) → List (List T) → Type 0
HasNoOthers posts taken posted = (p : ℕ) → posts ≤ p → (of p taken ≡ []) × (slice_index_or posted p [] ≡ [])
