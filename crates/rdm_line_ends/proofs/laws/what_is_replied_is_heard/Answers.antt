use Rattle.rdm_line_ends.proofs.Asking.{answers_are_read, requests_are_written}
use Rattle.rdm_line_ends.proofs.Fixtures.{fixture_is_heard, one_is_heard, rig_is_heard}
use Rattle.rdm_line_ends.proofs.laws.what_is_replied_is_heard.Goals as goal

pub returns-clause-written : goal.returns-clause-written
returns-clause-written g c = requests_are_written g.H.Clock.tells

pub returns-clause-read : goal.returns-clause-read
returns-clause-read g c = answers_are_read g.H.Clock.tells

pub returns-clause-fixture : goal.returns-clause-fixture
returns-clause-fixture g c = fixture_is_heard g.H.Clock.tells g.F.Clock.tells

pub returns-clause-one : goal.returns-clause-one
returns-clause-one g c = one_is_heard g.H.Clock.tells g.F.Clock.tells

pub returns-clause-rig : goal.returns-clause-rig
returns-clause-rig g c = rig_is_heard g.H.Clock.tells g.F.Clock.tells
