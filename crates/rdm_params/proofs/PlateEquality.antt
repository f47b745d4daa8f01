-- `==` of plates and of changes.
use Rattle.std.proofs.Common.{◌≡◌, ℕ, Bool, ◌&&◌, List, length, take, refl, sym, ap, ◌∙◌}
use Rattle.std.specs.Bool.{Decides}
use Rattle.std.specs.Prelude.{nat_eq}
use Rattle.std.proofs.lemmas.Bool.{and_parts, and_from}
use Rattle.std.proofs.lemmas.Bool.Decides.{Decides-eqb}
use Rattle.std.proofs.lemmas.Slice.Eq.{slice_eq-Decides}
use Rattle.std.proofs.Math.Seq.{take-append_seam}
use Rattle.rdm_commands.specs.declared.panel.Change.{Change}
use Rattle.rdm_commands.specs.declared.panel.Change.TheVariants.{Start, Personality, Label}
use Rattle.rdm_commands.specs.contracts.panel.ChangePartialEq.TheImpl as compared
use Rattle.rdm_commands.specs.Views.Plates.{padded}
use lib.Pointwise.{pointwise}

abbrev same_text : List ℕ → List ℕ → Bool
same_text a b = pointwise nat_eq (padded a) (padded b) && nat_eq (length a) (length b)

one_text : (a b : List ℕ) → padded a ≡ padded b → length a ≡ length b → a ≡ b
one_text a b bytes len =
    sym (take-append_seam a _) ∙ ap (λ (n : ℕ). take n (padded a)) len ∙ ap (take (length b)) bytes ∙ take-append_seam b _

pub text_decides : (a b : List ℕ) → Decides (same_text a b) (a ≡ b)
text_decides a b =
    let bytes = slice_eq-Decides Decides-eqb (padded a) (padded b) _ refl in
    let len = Decides-eqb (length a) (length b) in (
      λ e. let parts = and_parts (pointwise nat_eq (padded a) (padded b)) (nat_eq (length a) (length b)) e in one_text a b (bytes.0 parts.0) (len.0 parts.1),
      λ e. and_from (pointwise nat_eq (padded a) (padded b)) (nat_eq (length a) (length b)) (bytes.1 (ap padded e)) (len.1 (ap length e)),
    )

start_is : (m n : ℕ) → Start m ≡ Start n → m ≡ n
start_is m n e = cc

personality_is : (m n : ℕ) → Personality m ≡ Personality n → m ≡ n
personality_is m n e = cc

label_is : (a b : List ℕ) → Label a ≡ Label b → a ≡ b
label_is a b e = cc

iff_decides : {P Q : Type 0} (a : Bool) → (P → Q) → (Q → P) → Decides a P → Decides a Q
iff_decides a there back p = (λ e. there (p.0 e), λ q. p.1 (back q))

pub change_decides : (a b : Change) → Decides (compared.ghosts.eq a b) (a ≡ b)
change_decides (Start m) (Start n) = iff_decides _ (ap Start) (start_is m n) (Decides-eqb m n)
change_decides (Start m) (Personality n) = (λ e. absurd cc, λ e. absurd cc)
change_decides (Start m) (Label b) = (λ e. absurd cc, λ e. absurd cc)
change_decides (Personality m) (Start n) = (λ e. absurd cc, λ e. absurd cc)
change_decides (Personality m) (Personality n) = iff_decides _ (ap Personality) (personality_is m n) (Decides-eqb m n)
change_decides (Personality m) (Label b) = (λ e. absurd cc, λ e. absurd cc)
change_decides (Label a) (Start n) = (λ e. absurd cc, λ e. absurd cc)
change_decides (Label a) (Personality n) = (λ e. absurd cc, λ e. absurd cc)
change_decides (Label a) (Label b) = iff_decides _ (ap Label) (label_is a b) (text_decides a b)
