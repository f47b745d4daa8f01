-- What is put behind others, one after the other.
use Rattle.std.proofs.Common.{◌≡◌, ℕ, cond, List, ◌++◌, Result, Ok, Err, OnOk, ap, ◌∙◌, append_assoc}
use Rattle.std.specs.Prelude.{is_ok}

pub two : {T E : Type 0} (r : Result T E) (old a mid b new : List ℕ) → mid ≡ old ++ a → OnOk r (new ≡ mid ++ b) → OnOk r (new ≡ old ++ (a ++ b))
two (Err e) old a mid b new p q = tt
two (Ok t) old a mid b new p q = q ∙ ap (λ (w : List ℕ). w ++ b) p ∙ append_assoc old a b

pub three : {T E : Type 0} (r : Result T E) (old a first b second c new : List ℕ) → first ≡ old ++ a → second ≡ first ++ b → OnOk r (new ≡ second ++ c)
    → OnOk r (new ≡ old ++ (a ++ (b ++ c)))
three r old a first b second c new p q s = two r old a first (b ++ c) new p (two r first b second c new q s)

pub five : {T E : Type 0} (r : Result T E) (old a first b second c third d fourth e new : List ℕ)
    → first ≡ old ++ a → second ≡ first ++ b → third ≡ second ++ c → fourth ≡ third ++ d → OnOk r (new ≡ fourth ++ e)
    → OnOk r (new ≡ old ++ (a ++ (b ++ (c ++ (d ++ e)))))
five r old a first b second c third d fourth e new p q s t u =
    three r old a first b second (c ++ (d ++ e)) new p q (three r second c third d fourth e new s t u)

-- what the last call put, if it worked out
pub on_ok : {T E : Type 0} (r : Result T E) (new put kept : List ℕ) → new ≡ cond (is_ok r) put kept → OnOk r (new ≡ put)
on_ok (Err e) new put kept is = tt
on_ok (Ok t) new put kept is = is
