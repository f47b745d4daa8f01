use Rattle.std.proofs.Common.{◌≡◌, ℕ, ◌+◌, ◌*◌, ◌-◌, take, drop, get_or, ap, ◌∙◌, arith}
use Rattle.std.proofs.lemmas.List.{length-set}
use Rattle.rdm_added.specs.Views.State.{common_entries}
use Rattle.rdm_saved.specs.SameProfile.{restored_device}
use Rattle.rdm_saved.proofs.Restored.{each_restored, others_after}
use Rattle.rdm_saved.proofs.restoring.restore_each.Goals as goal

pub loop-i-preserved : goal.loop-i-preserved
loop-i-preserved c =
    let old = get_or c.loop-i.subs c.loop-i.i c.index-subs-i.result in
    let piece : 46 * c.loop-i.i + 46 - 46 * c.loop-i.i ≡ 46 = omega arith in
    record {
      done = each_restored c.loop-i.i c.loop-i.subs c.args.subs.now _ c.index-subs-i.result c.args.bytes.now (omega (arith, c.loop-i-test.true, c.loop-i.invariant.count)) c.loop-i.invariant.count c.loop-i.invariant.done c.loop-i.invariant.others (c.restore_common.ensures ∙ ap (λ (n : ℕ). restored_device (common_entries old) (take n (drop (46 * c.loop-i.i) c.args.bytes.now))) piece);
      others = others_after c.loop-i.i c.loop-i.subs c.args.subs.now _ c.loop-i.invariant.others;
      count = length-set c.loop-i.subs c.loop-i.i _ ∙ c.loop-i.invariant.count;
    }
