-- Parts of a table that are right, and parts that are wrong.
use Rattle.std.proofs.Common.{◌≡◌, List, [], ◌∷◌, ◌++◌, inl, inr, Option, Some, None, IsSome, Result, Ok, Err, IsErrAnd, IfErr, refl}
use Rattle.toml.specs.Data.{Data, Members}
use Rattle.rdm_fixture_keys.specs.declared.refusal.Refusal.{Refusal}
use Rattle.rdm_fixture_keys.specs.Faults.{Fault, told}
use Rattle.rdm_fixture_keys.specs.Keys.{must, may}
use Rattle.rdm_fixture_keys.specs.Wrong.{Part, FirstWrong, AllRight, SaysNone, SaysSome}

-- ---- what was read is right

pub some : {A : Type 0} {o : Option A} (x : A) → Some x ≡ o → IsSome o
some x e = rw (← e) refl

pub free_right : {A : Type 0} (default : A) (says : Data → Option A) (found : Option Data) (x : A) → Some x ≡ may default says found → SaysSome says found
free_right default says None x e = tt
free_right default says (Some d) x e = some x e

-- ---- what was found says nothing

pub says_none : {A : Type 0} (says : Data → Option A) (found : Option Data) → IsSome found → must says found ≡ None → SaysNone says found
says_none says None there e = absurd (cc)
says_none says (Some d) there e = e

pub free_none : {A : Type 0} (default : A) (says : Data → Option A) (found : Option Data) → may default says found ≡ None → SaysNone says found
free_none default says None e = absurd (cc)
free_none default says (Some d) e = e

-- ---- parts before others

pub among : (ps qs : List Part) (t : Members) (f : Fault) → FirstWrong ps t f → FirstWrong (ps ++ qs) t f
among [] qs t f w = absurd w
among (p ∷ ps) qs t f w = elim w [
  | inl here ↦ inl here
  | inr later ↦ inr (later.0, among ps qs t f later.1)
]

pub behind : (ps qs : List Part) (t : Members) (f : Fault) → AllRight ps t → FirstWrong qs t f → FirstWrong (ps ++ qs) t f
behind [] qs t f right w = w
behind (p ∷ ps) qs t f right w = inr (right.0, behind ps qs t f right.1 w)

-- ---- what the exit of a `?` tells

pub exit : {A : Type 0} (Q : Fault → Type 0) (r : Result A Refusal) (e : Refusal) → IsErrAnd r (λ y. y ≡ e) → Q (told e) → IfErr r (λ y. Q (told y))
exit Q (Ok x) e h q = absurd h
exit Q (Err y) e h q = rw h q
