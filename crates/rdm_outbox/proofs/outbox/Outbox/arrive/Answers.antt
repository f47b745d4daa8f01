use Rattle.std.proofs.Common.{◌<◌, length, subst, sym}
use Rattle.rdm_outbox.specs.Shows.{Shows}
use Rattle.rdm_outbox.specs.State.{State, jobs_at}
use Rattle.rdm_outbox.proofs.Outboxes.{shows_end_of_first, shows_end_of_second}
use Rattle.rdm_outbox.proofs.outbox.Outbox.arrive.Goals as goal

pub returns-then-worker-eq0-clause-shows : goal.returns-then-worker-eq0-clause-shows
returns-then-worker-eq0-clause-shows c a h =
    rw (c.drop_first.ensures, c.put.ensures) (shows_end_of_first _ a c.args.worker c.args.message (subst (λ (s : State). Shows s a) (sym c.self.view_is) h) c.if-worker-eq0.true (subst (λ (s : State). 0 < length (jobs_at s c.args.worker)) (sym c.self.view_is) c.requires))

pub returns-else-worker-eq0-clause-shows : goal.returns-else-worker-eq0-clause-shows
returns-else-worker-eq0-clause-shows c a h =
    rw (c.drop_first-else-worker-eq0.ensures, c.put.ensures) (shows_end_of_second _ a c.args.worker c.args.message (subst (λ (s : State). Shows s a) (sym c.self.view_is) h) c.if-worker-eq0.false (subst (λ (s : State). 0 < length (jobs_at s c.args.worker)) (sym c.self.view_is) c.requires))
