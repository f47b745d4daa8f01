use Rattle.rdm_params.proofs.Told.{changes_what_it_tells, leaves_what_it_does_not_tell}
use Rattle.rdm_params.proofs.laws.set_changes_what_it_tells.Goals as goal

pub returns-clause-key : goal.returns-clause-key
returns-clause-key c = changes_what_it_tells

pub returns-clause-rest : goal.returns-clause-rest
returns-clause-rest c = leaves_what_it_does_not_tell
