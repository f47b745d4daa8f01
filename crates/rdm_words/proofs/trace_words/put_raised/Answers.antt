use Rattle.std.proofs.Common.{arith}
use Rattle.rdm_words.proofs.Fixed.{plain_raised}
use Rattle.rdm_words.proofs.trace_words.put_raised.Goals as goal

pub returns-clause-plain : goal.returns-clause-plain
returns-clause-plain c = λ plain. plain_raised c.args.slot c.args.of.now c.args.raise (omega (arith, c.ranges.slot.fits)) plain (omega (arith, c.ranges.raise.fits))
