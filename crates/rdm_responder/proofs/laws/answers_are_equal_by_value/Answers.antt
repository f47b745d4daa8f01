use Rattle.std.proofs.Common.{◌≡◌, Bool, Option, refl, ap}
use Rattle.std.specs.Bool.{Decides}
use Rattle.std.specs.Cmp.{booleans_Decides}
use Rattle.std.proofs.lemmas.Bool.Decides.{Decides-and, Decides-like}
use Rattle.rdm_commands.specs.declared.changed.Changed.{Changed}
use Rattle.rdm_responder.specs.declared.stepped.Started.{Started}
use Rattle.rdm_responder.specs.declared.stepped.Stepped.{Stepped}
use Rattle.rdm_responder.specs.contracts.stepped.SteppedPartialEq.TheImpl as compared
use Rattle.rdm_responder.proofs.Options.{option_decides}
use Rattle.rdm_responder.proofs.laws.answers_are_equal_by_value.Goals as goal

abbrev stepped : Bool → Option Started → Option Changed → Stepped
stepped replied started changed = record { replied = replied; started = started; changed = changed }

same_parts : (r r' : Bool) (s s' : Option Started) (c c' : Option Changed) → r ≡ r' → s ≡ s' → c ≡ c' → stepped r s c ≡ stepped r' s' c'
same_parts r r' s s' c c' e f g = rw (e, f, g) refl

decides : (c : goal.After-told_changes_are_equal_by_value) (a b : Stepped) → Decides (compared.ghosts.eq a b) (a ≡ b)
decides c a b =
    Decides-like _ (λ e. same_parts a.replied b.replied a.started b.started a.changed b.changed e.0 e.1.0 e.1.1) (λ e. (ap (λ (s : Stepped). s.replied) e, (ap (λ (s : Stepped). s.started) e, ap (λ (s : Stepped). s.changed) e)))
    (Decides-and _ _ (booleans_Decides a.replied b.replied) (Decides-and _ _ (option_decides _ c.starts_are_equal_by_value.ensures a.started b.started) (option_decides _ c.told_changes_are_equal_by_value.ensures a.changed b.changed)))

pub returns : goal.returns
returns c = decides c
