use Rattle.std.proofs.Common.{arith}
use Rattle.rdm_images.proofs.Texts.{sum_is_small}
use Rattle.rdm_images.proofs.encoding.sum_of.Goals as goal

pub returns-clause-small : goal.returns-clause-small
returns-clause-small c = omega (arith, c.added.ensures, sum_is_small c.args.bytes.now (λ i. omega (arith, c.type_inv.bytes i)))
