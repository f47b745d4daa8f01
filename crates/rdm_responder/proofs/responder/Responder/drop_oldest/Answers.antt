use Rattle.std.proofs.Common.{ap, subst, sym}
use Rattle.rdm_outbox.specs.Shows as outbox_state
use Rattle.rdm_responder.specs.History.{Dropped}
use Rattle.rdm_responder.specs.Rules.{account_of}
use Rattle.rdm_responder.specs.StandsFor.{State}
use Rattle.rdm_responder.proofs.Accounts.{stands_for_event}
use Rattle.rdm_responder.proofs.Changes.{shows_dropping}
use Rattle.rdm_responder.proofs.responder.Responder.drop_oldest.Goals as goal

pub returns-clause-dropped : goal.returns-clause-dropped
returns-clause-dropped c h stands =
    c.drop_oldest.ensures.message (account_of h).outbox (subst (λ (s : State). outbox_state.Shows s.outbox (account_of h).outbox) (sym c.self.view_is) stands.outbox)

pub returns-clause-stands : goal.returns-clause-stands
returns-clause-stands c h stands =
    stands_for_event _ h Dropped
    (shows_dropping c.args.self.now _ (account_of h) stands (ap (λ (s : State). s.uid) c.self.view_is)
    (ap (λ (s : State). s.parameters) c.self.view_is) (ap (λ (s : State). s.muted) c.self.view_is)
    (c.drop_oldest.ensures.shows (account_of h).outbox (subst (λ (s : State). outbox_state.Shows s.outbox (account_of h).outbox) (sym c.self.view_is) stands.outbox)))
