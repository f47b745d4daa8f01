use Rattle.std.proofs.Common.{◌≡◌, [], map, take}
use Rattle.rdm_outcomes.specs.Outcomes.{counted_in}
use Rattle.rdm_outcomes.proofs.planned.Planned.new.Given as goal

abbrev pub invariant-loop-rule : goal.invariant-loop-rule
invariant-loop-rule l = l.counted.items ≡ map (counted_in []) (take l.rule-index l.rules.items)
