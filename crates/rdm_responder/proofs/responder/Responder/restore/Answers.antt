use Rattle.std.proofs.Common.{◌≡◌, ℕ, List, refl, ap, ◌∙◌, sym}
use Rattle.rdm_frame.specs.declared.uid.Uid.{Uid}
use Rattle.rdm_params.specs.Commands.Saving.{powered_on}
use Rattle.rdm_params.specs.Device.Parameters.{Parameters}
use Rattle.rdm_responder.specs.History.{Restored}
use Rattle.rdm_responder.specs.Rules.{account_of}
use Rattle.rdm_responder.specs.StandsFor.{State}
use Rattle.rdm_responder.proofs.Accounts.{stands_for_event}
use Rattle.rdm_responder.proofs.Changes.{shows_restore, ok_unless_refused, on_ok, on_err}
use Rattle.rdm_responder.proofs.Lawfulness.{lawful_then, may_happen}
use Rattle.rdm_responder.proofs.Choices.{chosen_after_restore}
use Rattle.rdm_responder.proofs.responder.Responder.restore.Goals as goal
use Rattle.rdm_saved.specs.Restoring.{restored, restore_refusal}

refusal_same : {m n : ℕ} {p q : Parameters} (image : List ℕ) → m ≡ n → p ≡ q → restore_refusal m p image ≡ restore_refusal n q image
refusal_same image em ep = rw (em, ep) refl

pub returns-clause-lawful : goal.returns-clause-lawful
returns-clause-lawful c h lawful stands =
    let refused = c.power_on.ensures.refused ∙ ap (λ (s : State). restore_refusal s.uid.maker s.parameters c.args.image.now) c.self.view_is ∙ refusal_same c.args.image.now (ap (λ (u : Uid). u.maker) stands.uid) stands.parameters in
    let event = Restored c.args.image.now in
    (λ ok. lawful_then h event lawful (sym refused ∙ (ok_unless_refused c.power_on.result).0 ok), λ after. (ok_unless_refused c.power_on.result).1 (refused ∙ may_happen h event after))

pub returns-clause-refused : goal.returns-clause-refused
returns-clause-refused c h stands =
    c.power_on.ensures.refused ∙ ap (λ (s : State). restore_refusal s.uid.maker s.parameters c.args.image.now) c.self.view_is ∙ refusal_same c.args.image.now (ap (λ (u : Uid). u.maker) stands.uid) stands.parameters

pub returns-clause-stands : goal.returns-clause-stands
returns-clause-stands c =
    on_ok c.power_on.result _ _
    (λ after h stands.
    stands_for_event _ h (Restored c.args.image.now)
    (shows_restore c.args.self.now _ (account_of h) c.args.image.now stands (ap (λ (s : State). s.uid) c.self.view_is)
    (after ∙ ap (λ (s : State). powered_on (restored s.parameters c.args.image.now)) c.self.view_is)
    (ap (λ (s : State). s.muted) c.self.view_is) (ap (λ (s : State). s.outbox) c.self.view_is)))
    c.power_on.ensures.after

pub returns-clause-same : goal.returns-clause-same
returns-clause-same c =
    on_err c.power_on.result _ _
    (λ e. ap (λ (p : Parameters). record { uid = c.self.inside.uid; parameters = p; muted = c.self.inside.muted; outbox = c.self.inside.outbox }) e ∙ c.self.view_is)
    c.power_on.ensures.same

pub invariant_of-self : goal.invariant_of-self
invariant_of-self c = chosen_after_restore c.power_on.result _ c.self.inside.devices _ c.args.image.now c.self.invariant c.power_on.ensures.after c.power_on.ensures.same
