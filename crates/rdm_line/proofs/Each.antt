-- What is done to each item of a list.
use Rattle.std.proofs.Common.{◌≡◌, ◌≢◌, ℕ, zero, suc, ◌+◌, ◌<◌, List, [], ◌∷◌, length, get_or, set, map, refl, sym, ap, subst, ◌∙◌, arith, below_more, get_or-set_other, get_or-set_same}
use Rattle.std.proofs.lemmas.List.{get_or_default}
use Rattle.std.specs.List.{AllZip}

-- a fact of the items at each place
pub zip_of : {A B : Type 0} (R : A → B → Type 0) (xs : List A) (ys : List B) → length xs ≡ length ys → ((j : ℕ) (x : A) (y : B) → j < length xs → R (get_or xs j x) (get_or ys j y)) → AllZip R xs ys
zip_of R [] [] e each = tt
zip_of R [] (y ∷ ys) e each = absurd (omega (arith, e))
zip_of R (x ∷ xs) [] e each = absurd (omega (arith, e))
zip_of R (x ∷ xs) (y ∷ ys) e each = (each 0 x y (omega arith), zip_of R xs ys (omega (arith, e)) (λ j a b lt. each (suc j) a b (omega (arith, lt))))

-- what is the same of an item is so of all
pub map_set : {A B : Type 0} (f : A → B) (xs : List A) (i : ℕ) (x d : A) → f x ≡ f (get_or xs i d) → map f (set xs i x) ≡ map f xs
map_set f [] i x d e = refl
map_set {B = B} f (y ∷ ys) zero x d e = ap (λ (b : B). b ∷ map f ys) e
map_set {B = B} f (y ∷ ys) (suc i) x d e = ap (λ (l : List B). f y ∷ l) (map_set f ys i x d e)

-- it is done to one more
pub one_more : {A : Type 0} (does : A → A → Type 0) (old now : List A) (i : ℕ) (x y : A) → i < length now → i < length old → ((j : ℕ) (d e : A) → j < i → does (get_or old j d) (get_or now j e))
    → get_or now i y ≡ get_or old i y → does (get_or now i y) x → (j : ℕ) (d e : A) → j < i + 1 → does (get_or old j d) (get_or (set now i x) j e)
one_more {A = A} does old now i x y within there done same here j d e lt =
    below_more (λ (k : ℕ). (a b : A) → does (get_or old k a) (get_or (set now i x) k b)) i
    (λ k below a b. (let other : k ≢ i = omega arith in subst (λ (z : A). does (get_or old k a) z) (sym (get_or-set_other now i k x b other)) (done k a b below)))
    (λ a b.
    subst (λ (z : A). does (get_or old i a) z) (sym (get_or-set_same now i x b within))
    (subst (λ (z : A). does z x) (same ∙ get_or_default old i y a there) here)) j lt d e
