-- The first option of a code.
use Rattle.std.proofs.Common.{◌≡◌, ℕ, zero, suc, ◌+◌, ◌<◌, ◌≤◌, List, [], ◌∷◌, length, take, drop, Some, None, refl, sym, ap, ◌∙◌, arith, eq-eqb}
use Rattle.std.proofs.lemmas.Bool.{le-ltb, lt-ltb, ne_eqb}
use Rattle.rdm_capture.specs.declared.packet.Order.{Order}
use Rattle.rdm_capture.specs.Numbers.{number}
use Rattle.rdm_capture.specs.Blocks.{padded, option_behind, option_in}

-- the bytes that are passed over don't count
passed_over : (skip : ℕ) (order : Order) (code : ℕ) (t : List ℕ) → option_behind skip order code t ≡ option_behind 0 order code (drop skip t)
passed_over zero order code t = refl
passed_over (suc skip) order code [] = refl
passed_over (suc skip) order code (b ∷ t) = passed_over skip order code t

abbrev size_at : Order → List ℕ → ℕ
size_at order t = number order 2 (drop 2 t)

pub option_cut : (order : Order) (code : ℕ) (t : List ℕ) → length t < 4 + number order 2 (drop 2 t) → option_in order code t ≡ None
unfolding option_in
option_cut order code [] short = refl
option_cut order code (b ∷ t) short = rw (lt-ltb (length (b ∷ t)) (4 + size_at order (b ∷ t)) short) refl

pub option_short : (order : Order) (code : ℕ) (t : List ℕ) → length t < 4 → option_in order code t ≡ None
option_short order code t short = option_cut order code t (omega (arith, short))

pub option_end : (order : Order) (code : ℕ) (t : List ℕ) → 4 + number order 2 (drop 2 t) ≤ length t → number order 2 t ≡ 0 → option_in order code t ≡ None
unfolding option_in
option_end order code [] long is = absurd (omega (arith, long))
option_end order code (b ∷ t) long is = rw (le-ltb (length (b ∷ t)) (4 + size_at order (b ∷ t)) long, is) refl

pub option_here : (order : Order) (code : ℕ) (t : List ℕ) → 4 + number order 2 (drop 2 t) ≤ length t → (number order 2 t ≡ 0 → ⊥) → number order 2 t ≡ code
    → option_in order code t ≡ Some (take (number order 2 (drop 2 t)) (drop 4 t))
unfolding option_in
option_here order code [] long ends is = absurd (omega (arith, long))
option_here order code (b ∷ t) long ends is =
    rw (le-ltb (length (b ∷ t)) (4 + size_at order (b ∷ t)) long, ne_eqb (number order 2 (b ∷ t)) 0 ends, eq-eqb (number order 2 (b ∷ t)) code is) refl

pub option_later : (order : Order) (code : ℕ) (t : List ℕ) → 4 + number order 2 (drop 2 t) ≤ length t → (number order 2 t ≡ 0 → ⊥) → (number order 2 t ≡ code → ⊥)
    → option_in order code t ≡ option_in order code (drop (4 + padded (number order 2 (drop 2 t))) t)
unfolding option_in
option_later order code [] long ends other = absurd (omega (arith, long))
option_later order code (b ∷ t) long ends other =
    let count = padded (size_at order (b ∷ t)) in
    let one : 4 + count ≡ suc (3 + count) = omega arith in
    let rest : drop (4 + count) (b ∷ t) ≡ drop (3 + count) t = ap (λ (k : ℕ). drop k (b ∷ t)) one in
    rw (le-ltb (length (b ∷ t)) (4 + size_at order (b ∷ t)) long, ne_eqb (number order 2 (b ∷ t)) 0 ends, ne_eqb (number order 2 (b ∷ t)) code other)
    (passed_over (3 + count) order code t ∙ ap (λ (l : List ℕ). option_behind 0 order code l) (sym rest))
