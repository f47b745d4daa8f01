use Rattle.std.proofs.Common.{◌≡◌, ◌∷◌, drop}
use Rattle.rdm_fixture.specs.OverTime.{rises}
use Rattle.rdm_fixture.proofs.courses.rise.Given as goal

abbrev pub invariant-loop-point : goal.invariant-loop-point
invariant-loop-point l = rises (l.before ∷ drop l.point-index l.rest) ≡ rises (l.first ∷ l.rest)
