use Rattle.rdm_bus.proofs.BusRuns.{bus_laws_hold}
use Rattle.rdm_bus.proofs.laws.bus_recording_laws_hold.Goals as goal

pub returns : goal.returns
returns c = bus_laws_hold c.two_commands_fetch.ensures.queue c.two_commands_fetch.ensures.status c.two_commands_fetch.ensures.set
