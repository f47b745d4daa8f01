use Rattle.std.proofs.Common.{◌≡◌, ℕ, List, length}
use Rattle.rdm_bench.specs.Packed.{packed, ArePackable}
use Rattle.rdm_bench.proofs.Frames.{IsUnpackedTo}
use Rattle.rdm_bench.proofs.packed.unpack.Given as goal

abbrev pub invariant-loop-frame : goal.invariant-loop-frame
invariant-loop-frame l =
    (frames : List (List ℕ)) → ArePackable frames → l.bytes ≡ packed frames → IsUnpackedTo frames l.frames.items l.rest

abbrev pub decreases-loop-frame : goal.decreases-loop-frame
decreases-loop-frame l = length l.rest
