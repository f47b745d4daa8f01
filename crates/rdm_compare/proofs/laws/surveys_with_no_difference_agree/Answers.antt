use Rattle.rdm_compare.proofs.Comparing.{they_agree}
use Rattle.rdm_compare.proofs.laws.surveys_with_no_difference_agree.Goals as goal

pub returns : goal.returns
returns c = they_agree
