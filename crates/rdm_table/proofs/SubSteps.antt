-- Writes of one sub-device, and of each.
use Rattle.std.proofs.Common.{◌≡◌, ℕ, zero, suc, ◌+◌, ◌<◌, List, [], ◌∷◌, ◌++◌, length, get_or, take, drop, set, map, refl, sym, ap, ◌∙◌, add-one, arith}
use Rattle.std.proofs.lemmas.List.{map-set, get_or-map}
use Rattle.rdm_added.specs.declared.state.CommonValues.{CommonValues}
use Rattle.rdm_added.specs.Map.{Entry}
use Rattle.rdm_added.specs.Views.State.{common_entries}

-- a write of one
pub one_written : (f : List Entry → List Entry) (subs : List CommonValues) (i : ℕ) (old new : CommonValues) → i < length subs → old ≡ get_or subs i old → common_entries new ≡ f (common_entries old) → map common_entries (set subs i new) ≡ set (map common_entries subs) i (f (get_or (map common_entries subs) i []))
one_written f subs i old new lt here e =
    let was : common_entries old ≡ get_or (map common_entries subs) i [] = ap common_entries here ∙ sym (get_or-map common_entries subs i old [] lt) in
    map-set common_entries subs i new ∙ ap (set (map common_entries subs) i) (e ∙ ap f was)

each_set : (f : List Entry → List Entry) (xs : List (List Entry)) (i : ℕ) → i < length xs → set (map f (take i xs) ++ drop i xs) i (f (get_or (map f (take i xs) ++ drop i xs) i [])) ≡ map f (take (suc i) xs) ++ drop (suc i) xs
each_set f [] i lt = absurd (omega arith)
each_set f (x ∷ xs) zero lt = refl
each_set f (x ∷ xs) (suc i) lt = ap (λ (ms : List (List Entry)). f x ∷ ms) (each_set f xs i (omega arith))

-- a write of one more
pub each_step : (f : List Entry → List Entry) (xs now next : List (List Entry)) (i : ℕ) → i < length xs → now ≡ map f (take i xs) ++ drop i xs → next ≡ set now i (f (get_or now i [])) → next ≡ map f (take (i + 1) xs) ++ drop (i + 1) xs
each_step f xs now next i lt so_far e = rw (e, so_far, add-one i) (each_set f xs i lt)
