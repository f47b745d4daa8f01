use Rattle.std.proofs.Common.{ℕ, List, ap, ◌∙◌}
use Rattle.rdm_params.specs.Commands.Saving.{powered_on}
use Rattle.rdm_responder.specs.History.{Restored}
use Rattle.rdm_responder.specs.Laws.{values_of, maker_of}
use Rattle.rdm_responder.specs.Rules.{Account}
use Rattle.rdm_responder.proofs.Accounts.{account_of-then}
use Rattle.rdm_responder.proofs.laws.saved_values_are_restored.Goals as goal
use Rattle.rdm_saved.specs.Restoring.{restore_refusal}
use Rattle.rdm_saved.specs.SavedText.{saved_text}

pub returns : goal.returns
returns c saves restores root added subs make maker =
    let image : List ℕ = saved_text (maker_of saves) (values_of saves) in
    let back = c.saved_is_restored.ensures (maker_of saves) (values_of restores) (values_of saves) root added subs make in
    (ap (λ (n : ℕ). restore_refusal n (values_of restores) image) maker ∙ back.0, ap (λ (a : Account). a.parameters) (account_of-then restores (Restored image)) ∙ ap powered_on back.1)
