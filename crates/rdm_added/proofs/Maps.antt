-- Laws of lookup and update.
use Rattle.std.proofs.Common.{◌≡◌, ℕ, List, [], ◌∷◌, ◌++◌, refl, ap}
use Rattle.rdm_added.specs.Map.{Entry, entry, update}

-- an update of a map in two parts is an update of both
pub update_append : (f : Entry → List ℕ) (xs ys : List Entry) → update f (xs ++ ys) ≡ update f xs ++ update f ys
update_append f [] ys = refl
update_append f (x ∷ xs) ys = ap (λ (es : List Entry). entry x.pid x.index (f x) ∷ es) (update_append f xs ys)
