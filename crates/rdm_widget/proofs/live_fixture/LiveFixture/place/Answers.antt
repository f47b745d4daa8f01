use Rattle.std.proofs.Common.{List, sym, subst}
use Rattle.rdm_outbox.specs.declared.job.Job.{Job}
use Rattle.rdm_outcomes.specs.Outcomes.{HasEnded}
use Rattle.rdm_responder.specs.History.{History, Placed, then_event}
use Rattle.rdm_responder.specs.StandsFor.{StandsFor}
use Rattle.rdm_widget.specs.LiveFixtures.{Situation, IsIn, after_placing}
use Rattle.rdm_widget.proofs.Reports.{reported-placed}
use Rattle.rdm_widget.proofs.Turns.{on_ok}
use Rattle.rdm_widget.proofs.live_fixture.LiveFixture.place.Goals as goal

pub returns-clause-fixture : goal.returns-clause-fixture
returns-clause-fixture c =
    on_ok c.place.result
    ((h : History) → StandsFor c.args.self.now.responder h → StandsFor c.place.new.self (then_event h (Placed c.args.sub c.args.pid c.args.bytes.now)))
    ((s : Situation) → IsIn c.args.self.now s → IsIn (record c.args.self.now { responder = c.place.new.self }) (after_placing s c.args.sub c.args.pid c.args.bytes.now))
    c.place.ensures.stands
    (λ stands s is. record {
      uid = is.uid;
      responder = stands s.history is.responder;
      planned =
          subst (λ (l : List Job). HasEnded c.args.self.now.planned s.rules l) (sym (reported-placed s.history.events c.args.sub c.args.pid c.args.bytes.now)) is.planned;
      first = is.first;
      second = is.second;
      courses = is.courses;
      notices = is.notices;
      looked = is.looked;
    })
