-- How jobs end by rules.
use Rattle.std.proofs.Common.{◌≡◌, List, [], ◌∷◌, map, refl, ap}
use Rattle.rdm_outbox.specs.declared.job.Job.{Job}
use Rattle.rdm_outcomes.specs.declared.planned.Counted.{Counted}
use Rattle.rdm_outcomes.specs.declared.rule.Rule.{Rule}
use Rattle.rdm_outcomes.specs.Outcomes.{outcome_of, counted_in, CanEnd}

same_rules : (before : List Job) (rules : List Rule) → map (λ (c : Counted). c.rule) (map (counted_in before) rules) ≡ rules
same_rules before [] = refl
same_rules before (rule ∷ rules) = ap (λ (l : List Rule). rule ∷ l) (same_rules before rules)

pub can_end : (rules : List Rule) (before : List Job) (job : Job) → CanEnd rules job (outcome_of rules before job)
can_end rules before job = (map (counted_in before) rules, same_rules before rules, refl)
