use Rattle.rdm_updates.proofs.Starting.{compared}
use Rattle.rdm_updates.proofs.laws.words_are_compared.Goals as goal

pub returns : goal.returns
returns c = compared c.args.first c.args.second c.ranges.first.fits c.ranges.second.fits
