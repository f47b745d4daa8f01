use Rattle.std.proofs.Common.{◌≡◌, ◌++◌, drop}
use Rattle.std.specs.Prelude.{map}
use Rattle.std.specs.List.{flat_map}
use Rattle.rdm_capture.specs.Packets.{seen}
use Rattle.rdm_capture.specs.Written.{packet, file}
use Rattle.rdm_capture.specs.Traces.{sent_again}
use Rattle.rdm_capture.proofs.moment.capture_of_packets.Given as goal

-- the packets so far and those that are left are all
abbrev pub invariant-loop-packet : goal.invariant-loop-packet
invariant-loop-packet l =
    l.capture.items ++ flat_map packet (flat_map sent_again (map seen (drop l.packet-index l.packets))) ≡ file (flat_map sent_again (map seen l.packets))
