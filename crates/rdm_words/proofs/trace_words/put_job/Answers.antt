use Rattle.std.proofs.Common.{arith}
use Rattle.rdm_words.proofs.Fixed.{plain_job}
use Rattle.rdm_words.proofs.trace_words.put_job.Goals as goal

pub returns-clause-plain : goal.returns-clause-plain
returns-clause-plain c = plain_job c.args.worker c.args.number (omega (arith, c.ranges.worker.fits)) (omega (arith, c.ranges.number.fits))
