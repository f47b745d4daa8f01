use Rattle.rdm_responder.proofs.Results.{never_replaced}
use Rattle.rdm_responder.proofs.laws.results_are_never_replaced.Goals as goal

pub returns : goal.returns
returns c = never_replaced
