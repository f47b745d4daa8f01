use Rattle.std.proofs.Common.{◌-◌, length}
use Rattle.std.specs.Prelude.{map}
use Rattle.rdm_capture.specs.Packets.{seen}
use Rattle.rdm_capture.specs.Captures.{start_said, place_known}
use Rattle.rdm_capture.proofs.Going.{Going}
use Rattle.rdm_capture.proofs.reading.read_from.Given as goal

abbrev pub invariant-loop-at : goal.invariant-loop-at
invariant-loop-at l = Going l.bytes (start_said l.fn.start).known l.fn.start.size (place_known l.place) l.at (map seen l.packets.items)

abbrev pub decreases-loop-at : goal.decreases-loop-at
decreases-loop-at l = length l.bytes - l.at
