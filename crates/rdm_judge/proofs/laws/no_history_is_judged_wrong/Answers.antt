use Rattle.rdm_judge.proofs.NeverWrong.{never_wrong}
use Rattle.rdm_judge.proofs.laws.no_history_is_judged_wrong.Goals as goal

pub returns : goal.returns
returns c = never_wrong
