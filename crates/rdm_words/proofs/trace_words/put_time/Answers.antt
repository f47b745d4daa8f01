use Rattle.std.proofs.Common.{arith}
use Rattle.rdm_words.proofs.Fixed.{plain_time}
use Rattle.rdm_words.proofs.trace_words.put_time.Goals as goal

pub returns-clause-plain : goal.returns-clause-plain
returns-clause-plain c = plain_time c.args.millis (omega (arith, c.ranges.millis.fits))
