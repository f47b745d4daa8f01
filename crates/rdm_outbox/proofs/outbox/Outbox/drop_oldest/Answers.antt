use Rattle.std.proofs.Common.{subst, sym, ◌∙◌}
use Rattle.rdm_outbox.specs.Shows.{Shows}
use Rattle.rdm_outbox.specs.State.{State}
use Rattle.rdm_outbox.proofs.Outboxes.{shows_drop, drop_of_none}
use Rattle.rdm_outbox.proofs.outbox.Outbox.drop_oldest.Goals as goal

pub returns-clause-shows : goal.returns-clause-shows
returns-clause-shows c = λ a h. rw c.pop_front.ensures.items (shows_drop _ a (subst (λ (s : State). Shows s a) (sym c.self.view_is) h))

pub returns-clause-same : goal.returns-clause-same
returns-clause-same c = λ none.
    rw c.pop_front.ensures.items (drop_of_none _ _ (sym c.pop_front.ensures.value ∙ none) c.self.view_is)
