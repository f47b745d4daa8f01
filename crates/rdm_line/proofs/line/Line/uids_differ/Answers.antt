use Rattle.rdm_line.proofs.Ports.{all_devices_of, all_differ}
use Rattle.rdm_line.proofs.line.Line.uids_differ.Goals as goal

pub returns-clause-devices : goal.returns-clause-devices
returns-clause-devices g c = rw (← c.self.view_is) (all_devices_of c.self.inside.numbers.items c.self.invariant.0)

pub returns-clause-differ : goal.returns-clause-differ
returns-clause-differ g c = rw (← c.self.view_is) (all_differ c.self.inside.numbers.items c.self.invariant.0)
