use Rattle.rdm_line.proofs.Ports.{devices_of}
use Rattle.rdm_line.proofs.port.LinePort.new.Goals as goal

pub returns-clause-devices : goal.returns-clause-devices
returns-clause-devices g c = devices_of g.D.Device.muted c.args.line c.uids_differ.ensures.devices
