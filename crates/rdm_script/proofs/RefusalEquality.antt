-- `==` of refusals.
use Rattle.std.proofs.Common.{◌≡◌, ℕ, Bool, List, refl, ap}
use Rattle.std.specs.Bool.{Decides}
use Rattle.std.specs.Prelude.{nat_eq}
use Rattle.std.proofs.lemmas.Bool.Decides.{Decides-and, Decides-like, Decides-eqb}
use Rattle.std.proofs.lemmas.Slice.Eq.{slice_eq-Decides}
use Rattle.arrayvec.specs.declared.array_vec.ArrayVec.{ArrayVec}
use Rattle.rdm_script.specs.declared.refusal.Refusal.{Refusal as TheRefusal}
use Rattle.rdm_script.specs.declared.refusal.Wanted.{Wanted}
use Rattle.rdm_script.specs.contracts.refusal.RefusalPartialEq.TheImpl as refusals
use Rattle.rdm_script.specs.contracts.refusal.WantedPartialEq.TheImpl as wanteds
use lib.Pointwise.{pointwise}

-- `==` is true exactly where the values are equal
abbrev IsByValue : {A : Type 0} → (A → A → Bool) → Type 0
IsByValue {A = A} eq = (a b : A) → Decides (eq a b) (a ≡ b)

abbrev Word : Type 0
Word = ArrayVec ℕ 40 (Unit {0})

abbrev word_of : List ℕ → Word
word_of bytes = record { items = bytes }

word_decides : (v w : Word) → Decides (pointwise nat_eq v.items w.items) (v ≡ w)
word_decides v w = Decides-like _ (ap word_of) (ap (λ (u : Word). u.items)) (slice_eq-Decides Decides-eqb v.items w.items _ refl)

abbrev refusal_of : ℕ → ℕ → Word → Wanted → TheRefusal
refusal_of line column word wanted = record { line = line; column = column; word = word; wanted = wanted }

same_refusal : (l m c d : ℕ) (v w : Word) (x y : Wanted) → l ≡ m → c ≡ d → v ≡ w → x ≡ y → refusal_of l c v x ≡ refusal_of m d w y
same_refusal l m c d v w x y e f g h = rw (e, f, g, h) refl

pub refusal_decides : IsByValue wanteds.ghosts.eq → IsByValue refusals.ghosts.eq
refusal_decides wanted a b =
    Decides-like _ (λ e. same_refusal a.line b.line a.column b.column a.word b.word a.wanted b.wanted e.0 e.1.0 e.1.1.0 e.1.1.1)
    (λ e. (ap (λ (r : TheRefusal). r.line) e, (ap (λ (r : TheRefusal). r.column) e, (ap (λ (r : TheRefusal). r.word) e, ap (λ (r : TheRefusal). r.wanted) e))))
    (Decides-and _ _ (Decides-eqb a.line b.line) (Decides-and _ _ (Decides-eqb a.column b.column) (Decides-and _ _ (word_decides a.word b.word) (wanted a.wanted b.wanted))))
