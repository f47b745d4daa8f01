use Rattle.rdm_script.proofs.RefusalEquality.{refusal_decides}
use Rattle.rdm_script.proofs.laws.refusals_are_equal_by_value.Goals as goal

pub returns : goal.returns
returns c = refusal_decides c.wanteds_are_equal_by_value.ensures
