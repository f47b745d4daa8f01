use Rattle.std.proofs.Common.{◌≡◌, ℕ, ◌+◌, ◌*◌, ◌-◌, take, drop, get_or, ap, ◌∙◌, arith}
use Rattle.std.proofs.lemmas.List.{length-set}
use Rattle.rdm_added.specs.Views.State.{kept_entry}
use Rattle.rdm_saved.specs.SameProfile.{restored_kept}
use Rattle.rdm_saved.proofs.Restored.{added_restored, others_after}
use Rattle.rdm_saved.proofs.restoring.restore_added.Goals as goal

pub loop-i-preserved : goal.loop-i-preserved
loop-i-preserved c =
    let old = get_or c.loop-i.values c.loop-i.i c.index-values-i.result in
    let piece : 37 * c.loop-i.i + 37 - 37 * c.loop-i.i ≡ 37 = omega arith in
    record {
      done = added_restored c.loop-i.i c.loop-i.values c.args.values.now _ c.index-values-i.result c.args.bytes.now (omega (arith, c.loop-i-test.true, c.loop-i.invariant.count)) c.loop-i.invariant.count c.loop-i.invariant.done c.loop-i.invariant.others (c.restore_kept.ensures ∙ ap (λ (n : ℕ). restored_kept (kept_entry old) (take n (drop (37 * c.loop-i.i) c.args.bytes.now))) piece);
      others = others_after c.loop-i.i c.loop-i.values c.args.values.now _ c.loop-i.invariant.others;
      count = length-set c.loop-i.values c.loop-i.i _ ∙ c.loop-i.invariant.count;
    }
