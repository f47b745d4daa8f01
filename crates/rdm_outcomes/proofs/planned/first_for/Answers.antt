use Rattle.std.proofs.Common.{rules, tests}
use Rattle.std.proofs.lemmas.Iterator.{YieldsList-from_slice}
use Rattle.std.proofs.lemmas.Iterator.Search.{find_from_yields_List}
use Rattle.rdm_outcomes.specs.declared.planned.Counted.{Counted}
use Rattle.rdm_outcomes.specs.Outcomes.{holds}
use Rattle.rdm_outcomes.proofs.planned.first_for.Goals as goal

pub returns : goal.returns
returns c = find_from_yields_List (λ (r : Counted). holds r.rule r.seen c.args.job.now) _ _ c.find.result c.find.ensures.ran (YieldsList-from_slice c.args.counted.now cc) (λ x b q k. search (rules, tests))
