use Rattle.std.proofs.Common.{◌≡◌, ◌++◌, drop}
use Rattle.std.specs.Prelude.{map}
use Rattle.std.specs.List.{flat_map}
use Rattle.rdm_capture.specs.Packets.{seen}
use Rattle.rdm_capture.specs.Traces.{packet_text}
use Rattle.rdm_capture.proofs.trace.trace_of.Given as goal

-- the text so far and that of the packets that are left are that of all
abbrev pub invariant-loop-packet : goal.invariant-loop-packet
invariant-loop-packet l = l.trace.items ++ flat_map (packet_text l.start) (map seen (drop l.packet-index l.packets)) ≡ flat_map (packet_text l.start) (map seen l.packets)
