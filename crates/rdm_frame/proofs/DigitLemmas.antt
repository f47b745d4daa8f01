-- Reading bytes from their digits, one after the other.
use Rattle.std.proofs.Common.{ℕ, List, ◌++◌, Option}
use Rattle.std.specs.Prelude.{option_map}

-- what was read before, and what is still read
abbrev pub with_front : List ℕ → Option (List ℕ) → Option (List ℕ)
with_front front read = option_map (λ bytes. front ++ bytes) read
