use Rattle.rdm_crew.specs.Setups.{IsBadSetup}
use Rattle.rdm_crew.proofs.Starting.{told_bad}
use Rattle.rdm_crew.proofs.running.run.Goals as goal

pub returns-in-Err-clause-bad_setup : goal.returns-in-Err-clause-bad_setup
returns-in-Err-clause-bad_setup g c = told_bad c.in-Err.stopped c.error.result (IsBadSetup c.args.setup) c.error.ensures c.in-Err.ensures.bad_setup
