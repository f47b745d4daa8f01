-- A list whose items stand for histories, one by one.
use Rattle.std.proofs.Common.{◌≡◌, ℕ, zero, suc, ◌<◌, List, [], ◌∷◌, ◌++◌, length, get_or, set, take, drop, refl, ap, arith}
use Rattle.std.specs.List.{AllZip}

-- the item at a place, between those before and behind
pub zip_at : {A B : Type 0} (R : A → B → Type 0) (xs : List A) (before : List B) (y : B) (after : List B) (i : ℕ) (d : A) → length before ≡ i → AllZip R xs (before ++ y ∷ after) → R (get_or xs i d) y
zip_at R [] [] y after i d e zip = absurd zip
zip_at R [] (b ∷ before) y after i d e zip = absurd zip
zip_at R (x ∷ xs) [] y after zero d e zip = zip.0
zip_at R (x ∷ xs) [] y after (suc i) d e zip = absurd (omega (arith, e))
zip_at R (x ∷ xs) (b ∷ before) y after zero d e zip = absurd (omega (arith, e))
zip_at R (x ∷ xs) (b ∷ before) y after (suc i) d e zip = zip_at R xs before y after i d (omega (arith, e)) zip.1

pub zip_set : {A B : Type 0} (R : A → B → Type 0) (xs : List A) (before : List B) (y z : B) (after : List B) (i : ℕ) (x : A) → length before ≡ i → AllZip R xs (before ++ y ∷ after) → R x z → AllZip R (set xs i x) (before ++ z ∷ after)
zip_set R [] [] y z after i x e zip h = absurd zip
zip_set R [] (b ∷ before) y z after i x e zip h = absurd zip
zip_set R (w ∷ xs) [] y z after zero x e zip h = (h, zip.1)
zip_set R (w ∷ xs) [] y z after (suc i) x e zip h = absurd (omega (arith, e))
zip_set R (w ∷ xs) (b ∷ before) y z after zero x e zip h = absurd (omega (arith, e))
zip_set R (w ∷ xs) (b ∷ before) y z after (suc i) x e zip h = (zip.0, zip_set R xs before y z after i x (omega (arith, e)) zip.1 h)

-- a list, cut at a place
pub record Cut {B : Type 0} (ys : List B) (i : ℕ) : Type 0 where
  pub item : B
  pub more : take (suc i) ys ≡ take i ys ++ item ∷ []
  pub rest : drop i ys ≡ item ∷ drop (suc i) ys
  pub place : length (take i ys) ≡ i

pub cut : {B : Type 0} (ys : List B) (i : ℕ) → i < length ys → Cut ys i
cut [] i lt = absurd (omega (arith, lt))
cut (y ∷ ys) zero lt = record { item = y; more = refl; rest = refl; place = refl }
cut {B} (y ∷ ys) (suc i) lt =
    let c = cut ys i (omega (arith, lt)) in
    record { item = c.item; more = ap (λ (zs : List B). y ∷ zs) c.more; rest = c.rest; place = ap suc c.place }
