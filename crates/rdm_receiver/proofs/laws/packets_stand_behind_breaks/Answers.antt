use Rattle.rdm_receiver.proofs.Packets.{packets_stand}
use Rattle.rdm_receiver.proofs.laws.packets_stand_behind_breaks.Goals as goal

pub returns : goal.returns
returns c = packets_stand
