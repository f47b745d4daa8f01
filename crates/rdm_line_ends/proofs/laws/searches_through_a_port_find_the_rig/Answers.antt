use Rattle.rdm_line_ends.proofs.Through.{found_through, runs_are_asked}
use Rattle.rdm_line_ends.proofs.laws.searches_through_a_port_find_the_rig.Goals as goal

pub returns-clause-asked : goal.returns-clause-asked
returns-clause-asked g c = runs_are_asked g.P.Port.hears g.H.Clock.tells

pub returns-clause-found : goal.returns-clause-found
returns-clause-found g c = found_through g.P.Port.hears g.H.Clock.tells g.F.Clock.tells
