use Rattle.rdm_judge.proofs.Captures.{no_capture_is_wrong}
use Rattle.rdm_judge.proofs.laws.no_capture_is_judged_wrong.Goals as goal

pub returns : goal.returns
returns c = no_capture_is_wrong
