use Rattle.std.proofs.Common.{length, refl, sym, ap, subst, ◌∙◌}
use Rattle.std.specs.Prelude.{nat_lt}
use Rattle.rdm_frame.specs.declared.message.Message.{Message}
use Rattle.rdm_params.specs.Jobs.Commit.{after_commit, committed}
use Rattle.rdm_params.specs.Jobs.Work.{Choice, worker_at}
use Rattle.rdm_outbox.specs.Jobs.{after_arrive}
use Rattle.rdm_outbox.specs.Shows as outbox_state
use Rattle.rdm_responder.specs.History.{Arrived}
use Rattle.rdm_responder.specs.Rules.{account_of, after_outcome}
use Rattle.rdm_responder.specs.StandsFor.{State}
use Rattle.rdm_responder.proofs.Accounts.{stands_for_event}
use Rattle.rdm_responder.proofs.Arrivals.{shows_report, is_arrival}
use Rattle.rdm_responder.proofs.Lawfulness.{lawful_then, may_happen}
use Rattle.rdm_responder.proofs.Choices.{chosen_after_commit}
use Rattle.rdm_responder.proofs.responder.Responder.arrive.Goals as goal

pub returns-in_default-clause-lawful : goal.returns-in_default-clause-lawful
returns-in_default-clause-lawful c h lawful stands =
    (λ no. absurd cc, λ after. (c.in_default.ensures.account (account_of h) stands).1 (may_happen h (Arrived c.args.report) after))

pub returns-clause-lawful : goal.returns-clause-lawful
returns-clause-lawful c h lawful stands =
    (λ yes. lawful_then h (Arrived c.args.report) lawful ((c.in-Some.ensures.account (account_of h) stands).0 refl), λ after. refl)

pub returns-clause-arrival : goal.returns-clause-arrival
returns-clause-arrival c h stands =
    let b = (account_of h).outbox in
    let r = c.args.report in
    let shows = subst (λ (s : State). outbox_state.Shows s.outbox b) (sym c.self.view_is) stands.outbox in
    let own = c.in-Some.ensures.worker ∙ ap (λ (ws : Choice). worker_at ws r.job.work) stands.outbox.workers in
    let kept = c.note_failure-kept.ensures.kept (after_arrive b c.in-Some.worker c.commit-message.result) (c.arrive.ensures.shows b shows) in
    is_arrival h r _ c.self.inside.devices c.commit-message.new.self c.in-Some.worker ((c.in-Some.ensures.account (account_of h) stands).0 refl)
    (ap (λ (s : State). s.parameters) c.self.view_is ∙ stands.parameters) c.commit-message.ensures.after own (c.copy-twin.ensures ∙ c.commit-message.ensures.message)
    (kept ∙ ap (λ (m : Message). nat_lt (length b.noted) (length (after_outcome c.commit-message.new.self (after_arrive b c.in-Some.worker m) r.job.work r.outcome).noted)) (sym c.copy-twin.ensures))

pub returns-clause-stands : goal.returns-clause-stands
returns-clause-stands c h stands =
    let b = (account_of h).outbox in
    let r = c.args.report in
    let shows = subst (λ (s : State). outbox_state.Shows s.outbox b) (sym c.self.view_is) stands.outbox in
    let own = c.in-Some.ensures.worker ∙ ap (λ (ws : Choice). worker_at ws r.job.work) stands.outbox.workers in
    let message = c.commit-message.ensures.message ∙ ap (λ (s : State). committed s.parameters r.job.work r.outcome) c.self.view_is in
    let after = c.commit-message.ensures.after ∙ ap (λ (s : State). after_commit s.parameters r.job.work r.outcome) c.self.view_is in
    stands_for_event _ h (Arrived r)
    (shows_report c.args.self.now _ (account_of h) r c.in-Some.worker c.commit-message.result stands own message
    (ap (λ (s : State). s.uid) c.self.view_is) after (ap (λ (s : State). s.muted) c.self.view_is)
    (c.note_failure-kept.ensures.shows (after_arrive b c.in-Some.worker c.commit-message.result) (c.arrive.ensures.shows b shows)))

pub invariant_of-self : goal.invariant_of-self
invariant_of-self c =
    c.note_failure-kept.ensures.workers ∙ c.arrive.ensures.workers
    ∙ chosen_after_commit _ c.self.inside.devices _ c.args.report.job.work c.args.report.outcome c.self.invariant c.commit-message.ensures.after
