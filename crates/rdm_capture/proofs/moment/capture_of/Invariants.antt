use Rattle.std.proofs.Common.{◌≡◌, ◌++◌, drop}
use Rattle.std.specs.List.{flat_map}
use Rattle.rdm_capture.specs.Written.{packet, file}
use Rattle.rdm_capture.specs.Traces.{packets_from, packets_of}
use Rattle.rdm_capture.proofs.moment.capture_of.Given as goal

-- the packets so far and those of the lines that are left are all
abbrev pub invariant-loop-line : goal.invariant-loop-line
invariant-loop-line l = l.capture.items ++ flat_map packet (packets_from l.moment (drop l.line-index l.lines)) ≡ file (packets_of l.lines)
