use Rattle.rdm_lane.proofs.Moves.{begins}
use Rattle.rdm_lane.proofs.ends.ends_of.Goals as goal

pub ruled-requires-clause-rule : goal.ruled-requires-clause-rule
ruled-requires-clause-rule g c = begins
