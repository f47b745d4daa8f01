use Rattle.std.proofs.Common.{◌≡◌, length, map}
use Rattle.rdm_settings.specs.Places.{under}
use Rattle.rdm_settings.proofs.place.under.Given as goal

abbrev pub invariant-loop-rest : goal.invariant-loop-rest
invariant-loop-rest l = under l.role l.rest (map (λ cell. cell.now) l.left) ≡ under l.role l.columns (map (λ cell. cell.now) l.cells)

abbrev pub decreases-loop-rest : goal.decreases-loop-rest
decreases-loop-rest l = length l.rest
