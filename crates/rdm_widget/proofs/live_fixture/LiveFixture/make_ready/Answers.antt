use Rattle.rdm_widget.specs.LiveFixtures.{up_to_date}
use Rattle.rdm_widget.proofs.live_fixture.LiveFixture.make_ready.Goals as goal

pub returns : goal.returns
returns c = λ s is. c.report_all.ensures (up_to_date c.args.now s) (c.follow_courses.ensures s is)
