use Rattle.rdm_bus.proofs.DeviceCollectors.{recording_a_repeat_twice, skipping_a_lost_one}
use Rattle.rdm_bus.proofs.laws.device_collector_laws_rule_out.Goals as goal

pub returns-clause-recording_a_repeat_twice : goal.returns-clause-recording_a_repeat_twice
returns-clause-recording_a_repeat_twice c = recording_a_repeat_twice

pub returns-clause-skipping_a_lost_one : goal.returns-clause-skipping_a_lost_one
returns-clause-skipping_a_lost_one c = skipping_a_lost_one
