use Rattle.std.proofs.Common.{ap, ◌∙◌, sym}
use Rattle.rdm_params.specs.Commands.Placing.{place_refusal, after_place}
use Rattle.rdm_params.specs.Device.Parameters.{Parameters}
use Rattle.rdm_responder.specs.History.{Placed}
use Rattle.rdm_responder.specs.Rules.{account_of}
use Rattle.rdm_responder.specs.StandsFor.{State}
use Rattle.rdm_responder.proofs.Accounts.{stands_for_event}
use Rattle.rdm_responder.proofs.Changes.{shows_place, ok_unless_refused, always_ok, on_err}
use Rattle.rdm_responder.proofs.Lawfulness.{lawful_then, may_happen}
use Rattle.rdm_responder.proofs.Choices.{chosen_after_place}
use Rattle.rdm_responder.proofs.responder.Responder.place.Goals as goal

pub returns-clause-lawful : goal.returns-clause-lawful
returns-clause-lawful c h lawful stands =
    let refused = c.place.ensures.refused ∙ ap (λ (s : State). place_refusal s.parameters c.args.sub c.args.pid c.args.data.now) c.self.view_is ∙ ap (λ (p : Parameters). place_refusal p c.args.sub c.args.pid c.args.data.now) stands.parameters in
    let event = Placed c.args.sub c.args.pid c.args.data.now in
    (λ ok. lawful_then h event lawful (sym refused ∙ (ok_unless_refused c.place.result).0 ok), λ after. (ok_unless_refused c.place.result).1 (refused ∙ may_happen h event after))

pub returns-clause-refused : goal.returns-clause-refused
returns-clause-refused c h stands =
    c.place.ensures.refused ∙ ap (λ (s : State). place_refusal s.parameters c.args.sub c.args.pid c.args.data.now) c.self.view_is ∙ ap (λ (p : Parameters). place_refusal p c.args.sub c.args.pid c.args.data.now) stands.parameters

pub returns-clause-stands : goal.returns-clause-stands
returns-clause-stands c =
    always_ok c.place.result _
    (λ h stands.
    stands_for_event _ h (Placed c.args.sub c.args.pid c.args.data.now)
    (shows_place c.args.self.now _ (account_of h) c.args.sub c.args.pid c.args.data.now stands (ap (λ (s : State). s.uid) c.self.view_is)
    (c.place.ensures.after ∙ ap (λ (s : State). after_place s.parameters c.args.sub c.args.pid c.args.data.now) c.self.view_is)
    (ap (λ (s : State). s.muted) c.self.view_is) (ap (λ (s : State). s.outbox) c.self.view_is)))

pub returns-clause-same : goal.returns-clause-same
returns-clause-same c =
    on_err c.place.result _ _
    (λ e. ap (λ (p : Parameters). record { uid = c.self.inside.uid; parameters = p; muted = c.self.inside.muted; outbox = c.self.inside.outbox }) e ∙ c.self.view_is)
    c.place.ensures.same

pub invariant_of-self : goal.invariant_of-self
invariant_of-self c = chosen_after_place _ c.self.inside.devices _ c.args.sub c.args.pid c.args.data.now c.self.invariant c.place.ensures.after
