use Rattle.rdm_params.proofs.OtherDevices.{leaves_the_rest}
use Rattle.rdm_params.proofs.OwnKeys.{changes_its_keys}
use Rattle.rdm_params.proofs.laws.set_changes_its_own_keys.Goals as goal

pub returns-clause-keys : goal.returns-clause-keys
returns-clause-keys c = changes_its_keys

pub returns-clause-rest : goal.returns-clause-rest
returns-clause-rest c = leaves_the_rest
