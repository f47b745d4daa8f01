use Rattle.std.proofs.Common.{◌≡◌, ◌++◌, map, filter, take}
use Rattle.rdm_survey.specs.declared.place.Clash.TheVariants.{Overlap}
use Rattle.rdm_survey.specs.Places.{meets}
use Rattle.rdm_survey.proofs.clashing.put_overlaps.Given as goal

abbrev pub invariant-loop-other : goal.invariant-loop-other
invariant-loop-other l =
    l.list.items ≡ l.fn.list.items ++ map (λ b. Overlap l.place b) (filter (λ b. meets l.place b) (take l.other-index l.rest))
