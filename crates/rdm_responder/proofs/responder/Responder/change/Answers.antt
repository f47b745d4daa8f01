use Rattle.std.proofs.Common.{refl, sym, ap, subst, ◌∙◌}
use Rattle.rdm_params.specs.Commands.Panel.{after_change, change_message}
use Rattle.rdm_outbox.specs.Shows as outbox_state
use Rattle.rdm_responder.specs.History.{Changed}
use Rattle.rdm_responder.specs.Rules.{account_of, newest_only}
use Rattle.rdm_responder.specs.StandsFor.{State}
use Rattle.rdm_responder.proofs.Accounts.{stands_for_event}
use Rattle.rdm_responder.proofs.Changes.{shows_change}
use Rattle.rdm_responder.proofs.Lawfulness.{lawful_then, may_happen}
use Rattle.rdm_responder.proofs.Choices.{chosen_after_change}
use Rattle.rdm_responder.proofs.responder.Responder.change.Goals as goal

pub returns-then-not-room-clause-lawful : goal.returns-then-not-room-clause-lawful
returns-then-not-room-clause-lawful c h lawful stands =
    let b = (account_of h).outbox in
    let shows = subst (λ (s : State). outbox_state.Shows s.outbox b) (sym c.self.view_is) stands.outbox in
    (λ no. absurd cc, λ after. sym c.if-not-room.true ∙ c.room.ensures.account b shows ∙ may_happen h (Changed c.args.change) after)

pub returns-clause-lawful : goal.returns-clause-lawful
returns-clause-lawful c h lawful stands =
    let b = (account_of h).outbox in
    let shows = subst (λ (s : State). outbox_state.Shows s.outbox b) (sym c.self.view_is) stands.outbox in
    (λ yes. lawful_then h (Changed c.args.change) lawful (sym (c.room.ensures.account b shows) ∙ c.if-not-room.false), λ after. refl)

pub returns-clause-stands : goal.returns-clause-stands
returns-clause-stands c h stands =
    let b = (account_of h).outbox in
    let shows = subst (λ (s : State). outbox_state.Shows s.outbox b) (sym c.self.view_is) stands.outbox in
    let message = c.change-message.ensures.message ∙ ap (λ (s : State). change_message s.parameters c.args.change) c.self.view_is in
    let newest = c.newest_only-newest.ensures ∙ ap (λ (s : State). newest_only s.parameters) c.self.view_is in
    let after = c.change-message.ensures.after ∙ ap (λ (s : State). after_change s.parameters c.args.change) c.self.view_is in
    stands_for_event _ h (Changed c.args.change)
    (shows_change c.args.self.now _ (account_of h) c.args.change c.change-message.result c.newest_only-newest.result stands newest message
    (ap (λ (s : State). s.uid) c.self.view_is) after (ap (λ (s : State). s.muted) c.self.view_is) (c.announce.ensures.shows b shows))

pub invariant_of-self : goal.invariant_of-self
invariant_of-self c = c.announce.ensures.workers ∙ chosen_after_change _ c.self.inside.devices _ c.args.change c.self.invariant c.change-message.ensures.after
