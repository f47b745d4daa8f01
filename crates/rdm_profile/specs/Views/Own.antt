-- A list that most often has no elements.
use Rattle.std.specs.Prelude.{ℕ, List, [], Option, Some, None, Vec}
use Rattle.std.specs.declared.boxed.Box.{Box}
use Rattle.arrayvec.specs.declared.array_vec.ArrayVec.{ArrayVec}

-- the elements of the list that there may be
abbrev pub listed : {X Z : Type 0} (n : ℕ) → Option (Box (ArrayVec X n (Unit {0})) Z) → List X
listed n None = []
listed n (Some list) = list.value.items

-- the same of a list that grows
abbrev pub grown : {X Y Z : Type 0} → Option (Box (Vec X Y) Z) → List X
grown None = []
grown (Some list) = list.value.items

-- the elements of a list that takes no memory without any
abbrev pub gathered : {X Y : Type 0} → Option (Vec X Y) → List X
gathered None = []
gathered (Some list) = list.items
