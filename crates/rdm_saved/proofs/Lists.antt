-- Parts of lists.
use Rattle.std.proofs.Common.{◌≡◌, ℕ, suc, zero, ◌+◌, ◌≤◌, ◌<◌, List, [], ◌∷◌, length, take, drop, drop-cons, get_or, refl, sym, ap, ◌∙◌, arith}
use Rattle.std.proofs.Math.Seq.{drop-nil}
use Rattle.std.proofs.lemmas.List.{take_all}

pub drop_drop : {A : Type 0} (n m : ℕ) (l : List A) → drop m (drop n l) ≡ drop (n + m) l
drop_drop zero m l = ap (λ (k : ℕ). drop k l) (omega arith)
drop_drop (suc n) m [] = rw (drop-nil m, drop-nil (suc n + m)) refl
drop_drop (suc n) m (x ∷ xs) =
    let e : suc n + m ≡ suc (n + m) = omega arith in
    rw e (drop_drop n m xs)

pub take_take : {A : Type 0} (n m : ℕ) (l : List A) → take n (take (n + m) l) ≡ take n l
take_take zero m l = refl
take_take (suc n) m [] =
    let e : suc n + m ≡ suc (n + m) = omega arith in
    rw e refl
take_take (suc n) m (x ∷ xs) =
    let e : suc n + m ≡ suc (n + m) = omega arith in
    rw e (ap (λ ys. x ∷ ys) (take_take n m xs))

-- n elements from i on, one by one
abbrev pub items_from : ℕ → ℕ → List ℕ → List ℕ
items_from zero i t = []
items_from (suc n) i t = get_or t i 0 ∷ items_from n (suc i) t

pub items_from-take : (n i : ℕ) (t : List ℕ) → i + n ≤ length t → items_from n i t ≡ take n (drop i t)
items_from-take zero i t h = refl
items_from-take (suc n) i t h =
    let lt : i < length t = omega arith in
    let rest : items_from n (suc i) t ≡ take n (drop (suc i) t) = items_from-take n (suc i) t (omega arith) in
    ap (λ (xs : List ℕ). get_or t i 0 ∷ xs) rest ∙ ap (take (suc n)) (sym (drop-cons t i 0 lt))

-- all elements, one by one
pub items_all : (n : ℕ) (t : List ℕ) → length t ≡ n → t ≡ items_from n 0 t
items_all n t e = sym (items_from-take n 0 t (omega (arith, e)) ∙ take_all n t (omega (arith, e)))
