use Rattle.std.proofs.Common.{List, sym, subst}
use Rattle.rdm_outbox.specs.declared.job.Job.{Job}
use Rattle.rdm_outcomes.specs.Outcomes.{HasEnded}
use Rattle.rdm_widget.specs.LiveFixtures.{ready}
use Rattle.rdm_widget.proofs.Reports.{reported-heard}
use Rattle.rdm_widget.proofs.live_fixture.LiveFixture.hear_at.Goals as goal

pub returns-clause-fixture : goal.returns-clause-fixture
returns-clause-fixture c = λ s is.
    let made = c.make_ready.ensures s is in
    record {
      uid = made.uid;
      responder = c.step_into.ensures.stands (ready c.args.now s).history made.responder;
      planned =
          subst (λ (l : List Job). HasEnded c.make_ready.new.self.planned (ready c.args.now s).rules l)
          (sym (reported-heard (ready c.args.now s).history.events c.args.request.now)) made.planned;
      first = made.first;
      second = made.second;
      courses = made.courses;
      notices = made.notices;
      looked = made.looked;
    }
