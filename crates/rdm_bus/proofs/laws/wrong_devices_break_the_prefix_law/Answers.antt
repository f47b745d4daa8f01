use Rattle.rdm_bus.proofs.Devices.{dequeuing_breaks, forgetting_breaks, right_device_is_polled}
use Rattle.rdm_bus.proofs.laws.wrong_devices_break_the_prefix_law.Goals as goal

pub returns-clause-dequeues_again : goal.returns-clause-dequeues_again
returns-clause-dequeues_again c = dequeuing_breaks

pub returns-clause-forgets_empty_status : goal.returns-clause-forgets_empty_status
returns-clause-forgets_empty_status c = forgetting_breaks

pub returns-clause-right : goal.returns-clause-right
returns-clause-right c = right_device_is_polled
