use Rattle.std.proofs.Common.{◌≡◌, length}
use Rattle.rdm_compare.specs.Reading.{are_once}
use Rattle.rdm_compare.proofs.saved_reading.are_once.Given as goal

abbrev pub invariant-loop-rest : goal.invariant-loop-rest
invariant-loop-rest l = are_once l.fn.list ≡ are_once l.rest

abbrev pub decreases-loop-rest : goal.decreases-loop-rest
decreases-loop-rest l = length l.rest
