use Rattle.rdm_outcomes.proofs.DemoRules.{demo_ends}
use Rattle.rdm_outcomes.proofs.laws.demo_rules_end_jobs.Goals as goal

pub returns : goal.returns
returns c = demo_ends
