use Rattle.std.proofs.Common.{◌≡◌}
use Rattle.rdm_search.specs.Ranges.{IsRange}
use Rattle.rdm_search.specs.Stages.{stage_after}
use Rattle.rdm_search.proofs.stage.stage_after.Given as goal

abbrev pub invariant-loop-depth : goal.invariant-loop-depth
invariant-loop-depth l = record {
  range : IsRange (record { index = l.index; depth = l.depth });
  same : stage_after l.fn.range.depth l.fn.range.index ≡ stage_after l.depth l.index;
}

abbrev pub decreases-loop-depth : goal.decreases-loop-depth
decreases-loop-depth l = l.depth
