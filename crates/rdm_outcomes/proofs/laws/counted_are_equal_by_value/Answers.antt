use Rattle.rdm_outcomes.proofs.RuleEquality.{counted_decides}
use Rattle.rdm_outcomes.proofs.laws.counted_are_equal_by_value.Goals as goal

pub returns : goal.returns
returns c = counted_decides c.rules_are_equal_by_value.ensures
