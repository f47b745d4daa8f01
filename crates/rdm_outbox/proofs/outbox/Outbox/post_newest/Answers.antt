use Rattle.std.proofs.Common.{sym, subst}
use Rattle.rdm_outbox.specs.Shows.{Shows}
use Rattle.rdm_outbox.specs.State.{State}
use Rattle.rdm_outbox.proofs.Newest.{shows_newest}
use Rattle.rdm_outbox.proofs.outbox.Outbox.post_newest.Goals as goal

pub returns-clause-shows : goal.returns-clause-shows
returns-clause-shows c = λ a h. rw c.put_newest.ensures (shows_newest _ a c.args.message (subst (λ (s : State). Shows s a) (sym c.self.view_is) h))
