-- What is on the line behind the interface, as the requests that it hears show it.
use Rattle.std.specs.Prelude.{ℕ, List, Option}

-- When it is in a situation; what comes from the line if it hears these bytes at that time, if anything does; and in which
-- situation it is then.
pub record Hearing (D S : Type 0) : Type 1 where
  pub is_in : D → S → Type 0
  pub reply : ℕ → S → List ℕ → Option (List ℕ)
  pub heard : ℕ → S → List ℕ → S
