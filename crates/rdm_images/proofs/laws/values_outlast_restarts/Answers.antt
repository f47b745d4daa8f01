use Rattle.rdm_images.proofs.Restarting.{values_outlast}
use Rattle.rdm_images.proofs.laws.values_outlast_restarts.Goals as goal

pub returns : goal.returns
returns c = values_outlast
