use Rattle.std.proofs.Common.{◌∙◌, sym, arith}
use Rattle.rdm_search.proofs.Places.{parent_fits}
use Rattle.rdm_search.proofs.Steps.{stage_up, stage_beside}
use Rattle.rdm_search.proofs.stage.stage_after.Goals as goal

pub loop-depth-preserved : goal.loop-depth-preserved
loop-depth-preserved c = record {
  range = (omega arith, parent_fits c.loop-depth.depth c.loop-depth.index (omega arith) c.loop-depth.invariant.range.1);
  same = c.loop-depth.invariant.same ∙ stage_up c.loop-depth.depth c.loop-depth.index (omega arith) (omega arith);
}

pub returns-then-index-eq0-clause-value : goal.returns-then-index-eq0-clause-value
returns-then-index-eq0-clause-value c = sym (c.loop-depth.invariant.same ∙ stage_beside c.loop-depth.depth c.loop-depth.index (omega arith) (omega arith))
