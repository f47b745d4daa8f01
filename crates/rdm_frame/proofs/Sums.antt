-- Sums of slots.
use Rattle.std.proofs.Common.{◌≡◌, ℕ, ◌+◌, ◌*◌, ◌≤◌, List, length, take, drop, sum, slice_index_or, Fits, w8, sym, ap, ◌∙◌, arith}
use Rattle.std.proofs.lemmas.List.{take-append-drop}
use Rattle.std.proofs.lemmas.List.Sums.{sum_by-append, sum_by-le}
use Rattle.std.proofs.lemmas.List.Elements.{All-from_get_or}

-- the sum of the first n and of the others
pub sum_in_parts : (n : ℕ) (xs : List ℕ) → sum xs ≡ sum (take n xs) + sum (drop n xs)
sum_in_parts n xs = ap sum (sym (take-append-drop n xs)) ∙ sum_by-append (λ x. x) (take n xs) (drop n xs)

pub sum_is_small : (xs : List ℕ) → ((i : ℕ) → Fits w8 (slice_index_or xs i 0)) → sum xs ≤ length xs * 255
sum_is_small xs bytes = sum_by-le (λ x. x) 255 xs (All-from_get_or (λ x. x ≤ 255) xs 0 (λ i within. omega (arith, bytes i)))
