use Rattle.rdm_params.proofs.UsualSlow.{sensor_at_once}
use Rattle.rdm_params.proofs.jobs.laws.sensor_is_answered_at_once.Goals as goal

pub returns : goal.returns
returns c = sensor_at_once
