use Rattle.std.proofs.Common.{ap, sym, subst, ◌∙◌, refl}
use Rattle.rdm_params.specs.Jobs.Work.{Choice, worker_at}
use Rattle.rdm_outbox.specs.Shows as outbox
use Rattle.rdm_responder.specs.StandsFor.{State}
use Rattle.rdm_responder.proofs.Arrivals.{fitting, no_worker, oldest_arrives, is_oldest, none_arrives}
use Rattle.rdm_responder.proofs.responder.Responder.awaits.Goals as goal

pub returns-in_err-job-clause-account : goal.returns-in_err-job-clause-account
returns-in_err-job-clause-account c a shows =
    let outbox_shows = subst (λ (s : State). outbox.Shows s.outbox a.outbox) (sym c.self.view_is) shows.outbox in
    let fit = fitting _ _ _ c.in_ok-worker.ensures.worker in
    let own = fit.0 ∙ ap (λ (ws : Choice). worker_at ws c.args.report.now.job.work) (c.workers-workers.ensures ∙ sym c.self.invariant ∙ outbox_shows.workers) in
    let none = c.in_err-job.ensures.account a.outbox outbox_shows c.in_ok-worker.ensures.two in
    (λ some. absurd (no_worker _ c.from_residual-in_err-job.ensures some), λ may. absurd (none_arrives a c.args.report.now c.in_ok-worker.worker own none may))

pub returns-then-is_same-clause-account : goal.returns-then-is_same-clause-account
returns-then-is_same-clause-account c a shows =
    let outbox_shows = subst (λ (s : State). outbox.Shows s.outbox a.outbox) (sym c.self.view_is) shows.outbox in
    let fit = fitting _ _ _ c.in_ok-worker.ensures.worker in
    let own = fit.0 ∙ ap (λ (ws : Choice). worker_at ws c.args.report.now.job.work) (c.workers-workers.ensures ∙ sym c.self.invariant ∙ outbox_shows.workers) in
    let here = c.in_ok-job.ensures.account a.outbox outbox_shows c.in_ok-worker.ensures.two in
    (λ yes. oldest_arrives a c.args.report.now c.in_ok-worker.worker c.in_ok-job.job.now own here (c.is_same.ensures.0 c.if-is_same.true) fit.1, λ may. refl)

pub returns-else-is_same-clause-account : goal.returns-else-is_same-clause-account
returns-else-is_same-clause-account c a shows =
    let outbox_shows = subst (λ (s : State). outbox.Shows s.outbox a.outbox) (sym c.self.view_is) shows.outbox in
    let fit = fitting _ _ _ c.in_ok-worker.ensures.worker in
    let own = fit.0 ∙ ap (λ (ws : Choice). worker_at ws c.args.report.now.job.work) (c.workers-workers.ensures ∙ sym c.self.invariant ∙ outbox_shows.workers) in
    let here = c.in_ok-job.ensures.account a.outbox outbox_shows c.in_ok-worker.ensures.two in
    (λ no. absurd cc, λ may. sym c.if-is_same.false ∙ c.is_same.ensures.1 (is_oldest a c.args.report.now c.in_ok-worker.worker c.in_ok-job.job.now own here may))
