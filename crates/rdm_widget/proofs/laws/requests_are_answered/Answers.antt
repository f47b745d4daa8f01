use Rattle.rdm_widget.proofs.Requests.{answered_with}
use Rattle.rdm_widget.proofs.laws.requests_are_answered.Goals as goal

pub returns : goal.returns
returns g c = answered_with g.L.OnLine.hearing
