use Rattle.rdm_params.proofs.Locked.{lock_refuses, lock_keeps}
use Rattle.rdm_params.proofs.laws.locked_parameters_stay.Goals as goal

pub returns-clause-refused : goal.returns-clause-refused
returns-clause-refused c = lock_refuses

pub returns-clause-kept : goal.returns-clause-kept
returns-clause-kept c = lock_keeps
