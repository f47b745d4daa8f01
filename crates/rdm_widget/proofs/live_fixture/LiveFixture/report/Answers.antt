use Rattle.std.proofs.Common.{◌≡◌, ◌∙◌, true, List, sym, ap, subst}
use Rattle.rdm_commands.specs.declared.jobs.outcome.Outcome.{Outcome}
use Rattle.rdm_params.specs.Jobs.Outcome.{fits}
use Rattle.rdm_outbox.specs.declared.job.Job.{Job}
use Rattle.rdm_responder.specs.declared.report.Report.{Report}
use Rattle.rdm_responder.specs.declared.report.Astray.{Astray}
use Rattle.rdm_responder.specs.History.{History, Arrived, then_event}
use Rattle.rdm_responder.specs.Lawful.{MayArrive}
use Rattle.rdm_responder.specs.Rules.{account_of}
use Rattle.rdm_responder.specs.StandsFor.{StandsFor}
use Rattle.rdm_outcomes.specs.Outcomes.{CanEnd, HasEnded}
use Rattle.rdm_widget.specs.LiveFixtures.{worker_in, reported_in, report_of, since_after}
use Rattle.rdm_widget.proofs.Ends.{can_end}
use Rattle.rdm_widget.proofs.Reports.{IsSlowJob, oldest_is, reported-then, never_astray}
use Rattle.rdm_widget.proofs.live_fixture.LiveFixture.report.Goals as goal

pub returns : goal.returns
returns c = λ s is oldest.
    let job : Job = c.args.ended.now.job in
    let report : Report = record { job = c.args.ended.now.job; outcome = c.end-outcome.result } in
    let counts = c.end-outcome.ensures.counts s.rules (reported_in s.history.events) is.planned in
    let slow : IsSlowJob c.args.ended.now.job =
    (oldest_is c.started_work_is_its_command.ensures.get c.started_work_is_its_command.ensures.set s.history (worker_in s.history c.args.ended.now.job) c.args.ended.now.job oldest).0 in
    let fit : fits c.args.ended.now.job.work c.end-outcome.result ≡ true =
    c.outcomes_fit.ensures s.rules c.args.ended.now.job c.end-outcome.result slow
    (subst (λ (o : Outcome). CanEnd s.rules c.args.ended.now.job o) (sym counts.0) (can_end s.rules (reported_in s.history.events) c.args.ended.now.job)) in
    let stands : StandsFor c.arrive.new.self (then_event s.history (Arrived report)) =
    never_astray c.arrive.result
    ((h : History) → StandsFor c.args.self.now.responder h → StandsFor c.arrive.new.self (then_event h (Arrived report)))
    (λ (astray : Astray). (astray.report ≡ report) × ((h : History) → StandsFor c.args.self.now.responder h → ¬ MayArrive (account_of h) report))
    c.arrive.ensures.stands c.arrive.ensures.astray
    (λ a q. q.1 s.history is.responder (record { oldest = oldest; fits = fit }))
    s.history is.responder in
    record {
      uid = is.uid;
      responder =
          subst (λ (o : Outcome). StandsFor c.arrive.new.self (then_event s.history (Arrived (record { job = c.args.ended.now.job; outcome = o })))) counts.0 stands;
      planned =
          subst (λ (l : List Job). HasEnded c.end-outcome.new.self s.rules l) (sym (reported-then s.history.events (report_of s c.args.ended.now.job))) counts.1;
      first = c.since_after-self.ensures ∙ ap (λ n. since_after 0 c.args.ended.now n) is.first;
      second = c.since_after-self-2.ensures ∙ ap (λ n. since_after 1 c.args.ended.now n) is.second;
      courses = is.courses;
      notices = is.notices;
      looked = is.looked;
    }
