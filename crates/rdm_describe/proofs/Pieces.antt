-- Pieces that are put one behind the other.
use Rattle.std.specs.Prelude.{OnOk, is_ok}
use Rattle.std.proofs.Common.{◌≡◌, ℕ, List, ◌++◌, Result, Ok, Err, cond, ap, append_assoc, ◌∙◌}

pub both_put : (old mid new a b : List ℕ) → mid ≡ old ++ a → new ≡ mid ++ b → new ≡ old ++ (a ++ b)
both_put old mid new a b p q = q ∙ ap (λ (z : List ℕ). z ++ b) p ∙ append_assoc old a b

-- the last of them, by a function of ours
pub last_put : {T E : Type 0} (r : Result T E) (old mid new a b : List ℕ) → mid ≡ old ++ a → OnOk r (new ≡ mid ++ b) → OnOk r (new ≡ old ++ (a ++ b))
last_put (Err e) old mid new a b p q = tt
last_put (Ok t) old mid new a b p q = both_put old mid new a b p q

-- the same, where what is put is called by another name
pub last_same : {T E : Type 0} (r : Result T E) (old mid new a b d : List ℕ) → b ≡ d → mid ≡ old ++ a → OnOk r (new ≡ mid ++ b)
    → OnOk r (new ≡ old ++ (a ++ d))
last_same (Err e) old mid new a b d same p q = tt
last_same (Ok t) old mid new a b d same p q = both_put old mid new a b p q ∙ ap (λ (z : List ℕ). old ++ (a ++ z)) same

-- the last of them, by a list
pub tail_put : {T E : Type 0} (r : Result T E) (old mid new a b : List ℕ) → mid ≡ old ++ a → new ≡ cond (is_ok r) (mid ++ b) mid
    → OnOk r (new ≡ old ++ (a ++ b))
tail_put (Err e) old mid new a b p q = tt
tail_put (Ok t) old mid new a b p q = both_put old mid new a b p q
