-- What a file was asked to do, as far as the clauses of its type speak of it.
use Rattle.std.specs.Prelude.{◌≡◌, ℕ, List, Option, Some, IfSome}
use Rattle.std.specs.Io.KnownBytes.{Appends}

-- It went to this place, and took these bytes there. `position` and `contents` are the members of the file's type that tell of it,
-- where they are known.
pub record TookAt {F : Type 0} (position : F → Option ℕ) (contents : F → Option (List ℕ))
    (old new : F) (place : ℕ) (bytes : List ℕ) : Type 0 where
  pub there : F
  pub went : IfSome (position old) (λ _. position there ≡ Some place)
  pub took : Appends (contents there) (contents new) bytes
