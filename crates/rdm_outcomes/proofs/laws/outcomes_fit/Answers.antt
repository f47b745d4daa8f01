use Rattle.rdm_outcomes.proofs.Fitting.{all_fit}
use Rattle.rdm_outcomes.proofs.laws.outcomes_fit.Goals as goal

pub returns : goal.returns
returns c = all_fit
