use Rattle.std.proofs.Common.{subst, sym}
use Rattle.rdm_outbox.specs.Shows.{Shows}
use Rattle.rdm_outbox.specs.State.{State}
use Rattle.rdm_outbox.proofs.Outboxes.{shows_none, shows_first, next_none}
use Rattle.rdm_outbox.proofs.outbox.Outbox.take_next.Goals as goal

pub returns-in-Some-clause-shows : goal.returns-in-Some-clause-shows
returns-in-Some-clause-shows c = λ a h. rw c.pop_front.ensures.items (shows_first _ a c.args.ask _ (subst (λ (s : State). Shows s a) (sym c.self.view_is) h) (sym c.in-Some.ensures.value))

pub returns-in-None-clause-message : goal.returns-in-None-clause-message
returns-in-None-clause-message c = λ a h. rw c.show_status.ensures.said (next_none _ a c.args.ask (subst (λ (s : State). Shows s a) (sym c.self.view_is) h) (sym c.in-None.ensures.value))

pub returns-in-None-clause-shows : goal.returns-in-None-clause-shows
returns-in-None-clause-shows c = λ a h. rw (c.pop_front.ensures.items, c.show_status.ensures.left, c.show_status.ensures.said) (shows_none _ a c.args.ask (subst (λ (s : State). Shows s a) (sym c.self.view_is) h) (sym c.in-None.ensures.value))
