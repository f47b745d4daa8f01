use Rattle.rdm_line_ends.proofs.Finding.{rig_is_found}
use Rattle.rdm_line_ends.proofs.laws.searches_find_the_rig.Goals as goal

pub returns : goal.returns
returns g c = rig_is_found g.H.Clock.tells g.F.Clock.tells
