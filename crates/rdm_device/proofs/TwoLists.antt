-- The personalities of a device: those of its unit, and behind them the modes of the root.
use Rattle.std.proofs.Common.{◌≡◌, ℕ, zero, suc, ◌-◌, ◌<◌, ◌≤◌, List, [], ◌∷◌, ◌++◌, length, refl, ap, ◌∙◌, arith}
use Rattle.std.specs.Prelude.{slice_get}

-- an element of the first of two lists
pub get_first : {X : Type 0} (xs ys : List X) (i : ℕ) → i < length xs → slice_get (xs ++ ys) i ≡ slice_get xs i
get_first [] ys i lt = absurd (omega (arith, lt))
get_first (x ∷ xs) ys zero lt = refl
get_first (x ∷ xs) ys (suc i) lt = get_first xs ys i (omega (arith, lt))

of_none : (i : ℕ) → i ≡ i - 0
of_none i = omega arith

of_both : (i n : ℕ) → i - n ≡ suc i - suc n
of_both i n = omega arith

-- an element of the second of two lists
pub get_second : {X : Type 0} (xs ys : List X) (i : ℕ) → length xs ≤ i → slice_get (xs ++ ys) i ≡ slice_get ys (i - length xs)
get_second {X = X} [] ys i le = ap (λ (n : ℕ). slice_get ys n) (of_none i)
get_second (x ∷ xs) ys zero le = absurd (omega (arith, le))
get_second {X = X} (x ∷ xs) ys (suc i) le = get_second xs ys i (omega (arith, le)) ∙ ap (λ (n : ℕ). slice_get ys n) (of_both i (length xs))
