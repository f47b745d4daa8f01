use Rattle.rdm_bus.proofs.Headlines.{headline_holds as holds}
use Rattle.rdm_bus.proofs.laws.headline_holds.Goals as goal

pub returns : goal.returns
returns c = holds c.bus_recording_laws_hold.ensures c.messages_are_kept.ensures
