-- Which values of an image another one doesn't have.
use Rattle.std.specs.Prelude.{ℕ, suc, ◌==◌, Bool, ◌&&◌, List, [], ◌∷◌, drop, bytes_eq, Option, Some, None, if◌then◌else◌}
use Rattle.std.specs.List.{list_any}
use Rattle.rdm_updates.specs.declared.comparing.LeftValue.{LeftValue}
use Rattle.rdm_updates.specs.SavedValues.{ValueSaved, told, saved_values}

-- whether two values are the same: of one device, PID and index, with the same bytes
abbrev pub is_value : ValueSaved → ValueSaved → Bool
is_value v other = (v.device == other.device) && ((v.pid == other.pid) && ((v.index == other.index) && bytes_eq v.bytes other.bytes))

-- whether an image has a value
abbrev pub has : List ℕ → ValueSaved → Bool
has image v = list_any (is_value v) (saved_values image)

-- the first of these values that an image doesn't have, and its number, if they are numbered from here
abbrev pub first_left : List ℕ → ℕ → List ValueSaved → Option (ℕ × ValueSaved)
first_left image n [] = None
first_left image n (v ∷ vs) = if has image v then first_left image (suc n) vs else Some (n, v)

-- The first value of the old image that the new one doesn't have, and its number, from a number on.
abbrev pub left : List ℕ → List ℕ → ℕ → Option (ℕ × ValueSaved)
left old new from = first_left new from (drop from (saved_values old))

-- what the code says of it
abbrev pub told_left : LeftValue → ℕ × ValueSaved
told_left l = (l.number, told l.value)
