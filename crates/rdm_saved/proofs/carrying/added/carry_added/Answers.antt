use Rattle.std.proofs.Common.{◌∙◌, arith}
use Rattle.std.proofs.lemmas.List.{length-set}
use Rattle.rdm_saved.proofs.Restored.{others_after}
use Rattle.rdm_saved.proofs.Carried.{added_carried}
use Rattle.rdm_saved.proofs.carrying.added.carry_added.Goals as goal

pub loop-i-preserved : goal.loop-i-preserved
loop-i-preserved c = record {
  done = added_carried c.args.profile.now c.args.image.now c.loop-i.i c.loop-i.values c.args.values.now _ c.index-values-i.result (omega (arith, c.loop-i-test.true, c.loop-i.invariant.count)) c.loop-i.invariant.count c.loop-i.invariant.done c.loop-i.invariant.others c.carry_kept.ensures;
  others = others_after c.loop-i.i c.loop-i.values c.args.values.now _ c.loop-i.invariant.others;
  count = length-set c.loop-i.values c.loop-i.i _ ∙ c.loop-i.invariant.count;
}
