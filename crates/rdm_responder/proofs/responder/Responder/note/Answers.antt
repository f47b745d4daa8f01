use Rattle.std.proofs.Common.{length, sym, ap, subst, ◌∙◌}
use Rattle.std.specs.Prelude.{nat_lt}
use Rattle.rdm_params.specs.Device.Parameters.{Parameters}
use Rattle.rdm_outbox.specs.Shows as outbox_state
use Rattle.rdm_responder.specs.History.{Noted}
use Rattle.rdm_responder.specs.Rules.{Account, account_of, after_entry}
use Rattle.rdm_responder.specs.StandsFor.{State}
use Rattle.rdm_responder.proofs.Accounts.{account_of-then, stands_for_event}
use Rattle.rdm_responder.proofs.Changes.{shows_note}
use Rattle.rdm_responder.proofs.responder.Responder.note.Goals as goal

pub returns-clause-noted : goal.returns-clause-noted
returns-clause-noted c h stands =
    let b = (account_of h).outbox in
    let shows = subst (λ (s : State). outbox_state.Shows s.outbox b) (sym c.self.view_is) stands.outbox in
    let values = ap (λ (s : State). s.parameters) c.self.view_is ∙ stands.parameters in
    c.note_entry.ensures.kept b shows
    ∙ ap (λ (p : Parameters). nat_lt (length b.noted) (length (after_entry p b c.args.entry).noted)) values
    ∙ ap (λ (a : Account). nat_lt (length b.noted) (length a.outbox.noted)) (sym (account_of-then h (Noted c.args.entry)))

pub returns-clause-stands : goal.returns-clause-stands
returns-clause-stands c h stands =
    let b = (account_of h).outbox in
    let shows = subst (λ (s : State). outbox_state.Shows s.outbox b) (sym c.self.view_is) stands.outbox in
    stands_for_event _ h (Noted c.args.entry)
    (shows_note c.args.self.now _ (account_of h) c.args.entry stands (ap (λ (s : State). s.uid) c.self.view_is)
    (ap (λ (s : State). s.parameters) c.self.view_is) (ap (λ (s : State). s.muted) c.self.view_is)
    (subst (λ (p : Parameters). outbox_state.Shows c.note_entry.new.outbox (after_entry p b c.args.entry)) (ap (λ (s : State). s.parameters) c.self.view_is) (c.note_entry.ensures.shows b shows)))
