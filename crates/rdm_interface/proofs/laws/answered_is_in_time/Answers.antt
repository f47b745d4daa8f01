use Rattle.rdm_interface.proofs.Sessions.{answered_is_in_time}
use Rattle.rdm_interface.proofs.laws.answered_is_in_time.Goals as goal

pub returns : goal.returns
returns g c = answered_is_in_time g.C.Clock.tells
