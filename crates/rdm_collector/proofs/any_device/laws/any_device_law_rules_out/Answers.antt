use Rattle.rdm_collector.proofs.AnyDevice.Joining.{skipping, recording_nothing}
use Rattle.rdm_collector.proofs.AnyDevice.NoLoss.{losing}
use Rattle.rdm_collector.proofs.any_device.laws.any_device_law_rules_out.Goals as goal

pub returns-clause-skipping : goal.returns-clause-skipping
returns-clause-skipping c = skipping

pub returns-clause-recording_nothing : goal.returns-clause-recording_nothing
returns-clause-recording_nothing c = recording_nothing

pub returns-clause-losing : goal.returns-clause-losing
returns-clause-losing c = losing
