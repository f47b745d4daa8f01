-- What a reader answers is carried over to what is said otherwise.
use Rattle.std.proofs.Common.{◌≡◌, Option, Some, None, sym, ◌∙◌, Result, Ok, Err, IfOk, IsErr}
use Rattle.rdm_fixture_keys.specs.Keys.{Reads}

pub Reads-same : {S T A E : Type 0} (P : S → A → Type 0) (Q : T → A → Type 0) (s : S) (t : T) (r : Result A E)
    → ((x : A) → P s x → Q t x) → ((x : A) → Q t x → P s x) → Reads P s r → Reads Q t r
Reads-same P Q s t (Ok x) there back h = there x h
Reads-same P Q s t (Err e) there back h = λ x says. h x (back x says)

pub Reads-ok : {S A E : Type 0} (P : S → A → Type 0) (Q : A → Type 0) (s : S) (r : Result A E) → ((x : A) → P s x → Q x) → Reads P s r → IfOk r Q
Reads-ok P Q s (Ok x) there h = there x h
Reads-ok P Q s (Err e) there h = tt

pub Reads-err : {S A E : Type 0} (P : S → A → Type 0) (s : S) (r : Result A E) → IsErr r → ((x : A) → ¬ P s x) → Reads P s r
Reads-err P s (Ok x) h none = absurd (cc)
Reads-err P s (Err e) h none = none

-- what was found isn't missing
pub not_none : {A : Type 0} (x : A) → Some x ≡ None → ⊥
not_none x e = cc

-- what says nothing doesn't say this
pub none_said : {A : Type 0} {o : Option A} (x : A) → None ≡ o → o ≡ Some x → ⊥
none_said x none some = not_none x (sym (none ∙ some))
