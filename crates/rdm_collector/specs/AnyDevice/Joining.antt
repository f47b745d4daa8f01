-- Lists in which adjacent elements that say the same count as one: `Recording` for elements of any type.
use Rattle.std.specs.Prelude.{◌≡◌, ◌≤◌, Bool, false, if◌then◌else◌, List, [], ◌∷◌, ◌++◌, length, fold}

abbrev pub ends_with : {A : Type 0} → (A → A → Bool) → List A → A → Bool
ends_with same [] x = false
ends_with same (y ∷ []) x = same y x
ends_with same (y ∷ z ∷ zs) x = ends_with same (z ∷ zs) x

-- an element at the end, unless it is the end already
unfoldable pub and_then : {A : Type 0} → (A → A → Bool) → List A → A → List A
and_then same xs x = if ends_with same xs x then xs else xs ++ x ∷ []

-- Each run of adjacent elements that say the same made one.
unfoldable pub join : {A : Type 0} → (A → A → Bool) → List A → List A
join same xs = fold (and_then same) [] xs

-- Joined, what was recorded is a prefix of what was dispensed, at most one element shorter, and all of it if the last poll is
-- answered.
pub record PrefixLaw {A : Type 0} (same : A → A → Bool) (unanswered : Bool) (dispensed recorded : List A) : Type 0 where
  pub rest : List A
  pub prefix : join same recorded ++ rest ≡ join same dispensed
  pub at_most_one : length rest ≤ 1
  pub equal : unanswered ≡ false → join same recorded ≡ join same dispensed
