use Rattle.std.proofs.Common.{subst, sym}
use Rattle.rdm_outbox.specs.Shows.{Shows}
use Rattle.rdm_outbox.specs.State.{State}
use Rattle.rdm_outbox.proofs.Outboxes.{shows_clear}
use Rattle.rdm_outbox.proofs.outbox.Outbox.clear_status.Goals as goal

pub returns-clause-shows : goal.returns-clause-shows
returns-clause-shows c = λ a h. rw c.clear.ensures.items (shows_clear _ a (subst (λ (s : State). Shows s a) (sym c.self.view_is) h))
