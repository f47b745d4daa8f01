use Rattle.std.proofs.Common.{◌≡◌, ◌==◌, length, map}
use Rattle.std.specs.List.{list_all}
use Rattle.rdm_settings.proofs.findings.are_empty.Given as goal

abbrev pub invariant-loop-rest : goal.invariant-loop-rest
invariant-loop-rest l =
    list_all (λ cell. length cell == 0) (map (λ cell. cell.now) l.rest) ≡ list_all (λ cell. length cell == 0) (map (λ cell. cell.now) l.cells)

abbrev pub decreases-loop-rest : goal.decreases-loop-rest
decreases-loop-rest l = length l.rest
