use Rattle.rdm_collector.proofs.AnyDevice.Runs.{go_on}
use Rattle.rdm_collector.proofs.any_device.laws.any_device_answers_go_on.Goals as goal

pub returns : goal.returns
returns c = go_on
