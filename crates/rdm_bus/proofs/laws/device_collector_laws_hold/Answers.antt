use Rattle.rdm_bus.proofs.DeviceCollectors.{laws_hold}
use Rattle.rdm_bus.proofs.laws.device_collector_laws_hold.Goals as goal

pub returns : goal.returns
returns c = laws_hold c.two_commands_fetch.ensures.queue c.two_commands_fetch.ensures.status c.two_commands_fetch.ensures.set
