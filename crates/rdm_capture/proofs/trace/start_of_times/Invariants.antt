use Rattle.std.proofs.Common.{◌≡◌, drop}
use Rattle.std.specs.Prelude.{map}
use Rattle.rdm_capture.specs.Packets.{seen}
use Rattle.rdm_capture.specs.Traces.{start_of_times}
use Rattle.rdm_capture.proofs.trace.start_of_times.Given as goal

-- no packet so far has a time
abbrev pub invariant-loop-packet : goal.invariant-loop-packet
invariant-loop-packet l = start_of_times (map seen (drop l.packet-index l.packets)) ≡ start_of_times (map seen l.packets)
