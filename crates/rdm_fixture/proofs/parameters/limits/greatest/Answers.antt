use Rattle.std.proofs.Common.{◌∙◌, rules}
use Rattle.std.specs.Int.{w64}
use Rattle.std.proofs.lemmas.Int.{to_z-of_z}
use Rattle.rdm_fixture.proofs.parameters.limits.greatest.Goals as goal

pub returns-clause-value : goal.returns-clause-value
returns-clause-value c =
    let most = to_z-of_z w64 c.greatest_of-greatest.result (search rules) ∙ c.greatest_of-greatest.ensures in
    let low = to_z-of_z w64 c.args.low c.ranges.low in
    rw (most, low) at c.integer_or.ensures.value

pub returns-clause-wrong : goal.returns-clause-wrong
returns-clause-wrong c =
    let most = to_z-of_z w64 c.greatest_of-greatest.result (search rules) ∙ c.greatest_of-greatest.ensures in
    let low = to_z-of_z w64 c.args.low c.ranges.low in
    rw (most, low) at c.integer_or.ensures.wrong
