use Rattle.std.proofs.Common.{◌≡◌, length}
use Rattle.rdm_compare.specs.Reading.{subs_are_once}
use Rattle.rdm_compare.proofs.fixture_reading.subs_are_once.Given as goal

abbrev pub invariant-loop-rest : goal.invariant-loop-rest
invariant-loop-rest l = subs_are_once l.subs ≡ subs_are_once l.rest

abbrev pub decreases-loop-rest : goal.decreases-loop-rest
decreases-loop-rest l = length l.rest
