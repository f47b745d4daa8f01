use Rattle.std.proofs.Common.{List, sym, subst}
use Rattle.rdm_outbox.specs.declared.job.Job.{Job}
use Rattle.rdm_outcomes.specs.Outcomes.{HasEnded}
use Rattle.rdm_responder.specs.History.{History, Changed, then_event}
use Rattle.rdm_responder.specs.StandsFor.{StandsFor}
use Rattle.rdm_widget.specs.LiveFixtures.{Situation, IsIn, after_panel}
use Rattle.rdm_widget.proofs.Reports.{reported-changed}
use Rattle.rdm_widget.proofs.Turns.{on_ok}
use Rattle.rdm_widget.proofs.live_fixture.LiveFixture.change.Goals as goal

pub returns-clause-fixture : goal.returns-clause-fixture
returns-clause-fixture c =
    on_ok c.change.result
    ((h : History) → StandsFor c.args.self.now.responder h → StandsFor c.change.new.self (then_event h (Changed c.args.change)))
    ((s : Situation) → IsIn c.args.self.now s → IsIn (record c.args.self.now { responder = c.change.new.self }) (after_panel s c.args.change))
    c.change.ensures.stands
    (λ stands s is. record {
      uid = is.uid;
      responder = stands s.history is.responder;
      planned =
          subst (λ (l : List Job). HasEnded c.args.self.now.planned s.rules l) (sym (reported-changed s.history.events c.args.change)) is.planned;
      first = is.first;
      second = is.second;
      courses = is.courses;
      notices = is.notices;
      looked = is.looked;
    })
