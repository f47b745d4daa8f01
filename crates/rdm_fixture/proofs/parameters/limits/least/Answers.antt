use Rattle.std.proofs.Common.{◌∙◌, rules}
use Rattle.std.specs.Int.{w64}
use Rattle.std.proofs.lemmas.Int.{to_z-of_z}
use Rattle.rdm_fixture.proofs.parameters.limits.least.Goals as goal

pub returns-clause-value : goal.returns-clause-value
returns-clause-value c =
    let least = to_z-of_z w64 c.least_of-least.result (search rules) ∙ c.least_of-least.ensures in
    let most = to_z-of_z w64 c.greatest_of.result (search rules) ∙ c.greatest_of.ensures in
    rw (least, most) at c.integer_or.ensures.value

pub returns-clause-wrong : goal.returns-clause-wrong
returns-clause-wrong c =
    let least = to_z-of_z w64 c.least_of-least.result (search rules) ∙ c.least_of-least.ensures in
    let most = to_z-of_z w64 c.greatest_of.result (search rules) ∙ c.greatest_of.ensures in
    rw (least, most) at c.integer_or.ensures.wrong
