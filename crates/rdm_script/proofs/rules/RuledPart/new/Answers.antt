use Rattle.std.proofs.Common.{◌≡◌, List, [], ◌∷◌, map, refl, ap, ◌∙◌}
use Rattle.rdm_outcomes.specs.declared.planned.Counted.{Counted}
use Rattle.rdm_outcomes.specs.declared.rule.Rule.{Rule}
use Rattle.rdm_outcomes.specs.Outcomes.{counted_in}
use Rattle.rdm_script.proofs.rules.RuledPart.new.Goals as goal

-- what is counted of rules has these rules
same_rules : (rules : List Rule) → map (λ (c : Counted). c.rule) (map (counted_in []) rules) ≡ rules
same_rules [] = refl
same_rules (rule ∷ more) = ap (λ (rs : List Rule). rule ∷ rs) (same_rules more)

pub returns-clause-rules : goal.returns-clause-rules
returns-clause-rules c = ap (map (λ (d : Counted). d.rule)) c.new.ensures ∙ same_rules c.args.rules.now.items

pub returns-clause-none : goal.returns-clause-none
returns-clause-none c = c.new.ensures
