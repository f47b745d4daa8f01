use Rattle.rdm_script.proofs.Tests.{take_min, take_fits}
use Rattle.rdm_script.proofs.refusal.front_of.Goals as goal

pub returns-clause-value : goal.returns-clause-value
returns-clause-value c = rw c.min.ensures (take_min c.args.word.now 40)

pub returns-clause-fits : goal.returns-clause-fits
returns-clause-fits c = rw c.min.ensures (take_fits c.args.word.now 40)
