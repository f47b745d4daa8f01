use Rattle.rdm_outcomes.proofs.RuleEquality.{rule_decides}
use Rattle.rdm_outcomes.proofs.laws.rules_are_equal_by_value.Goals as goal

pub returns : goal.returns
returns c = rule_decides c.tasks_are_equal_by_value.ensures c.outcomes_are_equal_by_value.ensures
