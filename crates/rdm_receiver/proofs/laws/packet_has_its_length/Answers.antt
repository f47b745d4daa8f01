use Rattle.rdm_receiver.proofs.Packets.{size_of}
use Rattle.rdm_receiver.proofs.laws.packet_has_its_length.Goals as goal

pub returns : goal.returns
returns c = size_of
