use Rattle.rdm_params.proofs.Endings.{changes_its_key_at_end, changes_its_keys_at_end, reading_changes_its_sensor, leaves_the_rest_at_end, failed_changes_nothing}
use Rattle.rdm_params.proofs.laws.commit_changes_its_own_keys.Goals as goal

pub returns-clause-key : goal.returns-clause-key
returns-clause-key c = changes_its_key_at_end

pub returns-clause-keys : goal.returns-clause-keys
returns-clause-keys c = changes_its_keys_at_end

pub returns-clause-sensor : goal.returns-clause-sensor
returns-clause-sensor c = reading_changes_its_sensor

pub returns-clause-rest : goal.returns-clause-rest
returns-clause-rest c = leaves_the_rest_at_end

pub returns-clause-failed : goal.returns-clause-failed
returns-clause-failed c = failed_changes_nothing
