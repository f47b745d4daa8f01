use Rattle.rdm_script.specs.Rules.{rules_of}
use Rattle.rdm_script.proofs.rules.ruled_parts_fit.Goals as goal

pub returns : goal.returns
returns c = λ part ws. (λ j o slow own can. c.outcomes_fit.ensures (rules_of part) j o slow can, λ j o slow own can. c.outcomes_fit.ensures (rules_of part) j o slow can)
