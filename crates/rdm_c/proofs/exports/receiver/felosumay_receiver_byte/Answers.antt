use Rattle.rdm_c.proofs.Receivers.{packet_told}
use Rattle.rdm_c.proofs.exports.receiver.felosumay_receiver_byte.Goals as goal

pub returns-in-Packet-clause-told : goal.returns-in-Packet-clause-told
returns-in-Packet-clause-told c = λ signals heard.
    packet_told c.receive.result c.in-Packet.count c.args.byte c.receive.new.self.packet _ c.in-Packet.is
    (c.receive.ensures.output signals heard) c.receive.ensures.brought
