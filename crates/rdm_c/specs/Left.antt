-- What C is told of a saved value that an update didn't take over.
use Rattle.std.specs.Prelude.{ℕ}
use Rattle.rdm_updates.specs.SavedValues.{ValueSaved}
use Rattle.rdm_c.specs.declared.left.LeftNumbers.{LeftNumbers}

-- the number of the value in the older image, and its key
abbrev pub numbers_of : ℕ × ValueSaved → LeftNumbers
numbers_of found = record { number = found.0; sub = found.1.device; pid = found.1.pid; index = found.1.index }
