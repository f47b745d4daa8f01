-- A piece that is written in one text, and defined line by line.
use Rattle.std.specs.Prelude.{is_ok, nat_lt, OnOk}
use Rattle.std.proofs.Common.{◌≡◌, ℕ, ◌<◌, ◌≤◌, Bool, true, false, cond, List, ◌++◌, Result, Ok, Err, sym, ap, append_assoc, subst, ◌∙◌, arith}
use Rattle.std.proofs.lemmas.Bool.Decides.{nat_tests}

pub piece_put : {T E : Type 0} (r : Result T E) (old new piece own : List ℕ) → piece ≡ own → new ≡ cond (is_ok r) (old ++ piece) old
    → OnOk r (new ≡ old ++ own)
piece_put (Err e) old new piece own p q = tt
piece_put (Ok t) old new piece own p q = q ∙ ap (λ (z : List ℕ). old ++ z) p

is_below : (m n : ℕ) → m < n → nat_lt m n ≡ true
is_below m n h = grind (arith, nat_tests)

is_not_below : (m n : ℕ) → n ≤ m → nat_lt m n ≡ false
is_not_below m n h = grind (arith, nat_tests)

-- what is put is the first or the second of two pieces
pub put_if : {T E : Type 0} (r : Result T E) (old new a b : List ℕ) (m n : ℕ) → m < n → OnOk r (new ≡ old ++ a)
    → OnOk r (new ≡ old ++ cond (nat_lt m n) a b)
put_if r old new a b m n h g = subst (λ (t : Bool). OnOk r (new ≡ old ++ cond t a b)) (sym (is_below m n h)) g

pub put_else : {T E : Type 0} (r : Result T E) (old new a b : List ℕ) (m n : ℕ) → n ≤ m → OnOk r (new ≡ old ++ b)
    → OnOk r (new ≡ old ++ cond (nat_lt m n) a b)
put_else r old new a b m n h g = subst (λ (t : Bool). OnOk r (new ≡ old ++ cond t a b)) (sym (is_not_below m n h)) g

-- pieces that are put one behind the other
pub both_put : (old mid new a b : List ℕ) → mid ≡ old ++ a → new ≡ mid ++ b → new ≡ old ++ (a ++ b)
both_put old mid new a b p q = q ∙ ap (λ (z : List ℕ). z ++ b) p ∙ append_assoc old a b

pub last_put : {T E : Type 0} (r : Result T E) (old mid new a b : List ℕ) → mid ≡ old ++ a → OnOk r (new ≡ mid ++ b) → OnOk r (new ≡ old ++ (a ++ b))
last_put (Err e) old mid new a b p q = tt
last_put (Ok t) old mid new a b p q = both_put old mid new a b p q
