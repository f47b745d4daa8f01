use Rattle.std.proofs.Common.{ℕ, ◌*◌, List, take, drop, get_or, ap, ◌∙◌, arith}
use Rattle.std.specs.Prelude.{map}
use Rattle.std.proofs.lemmas.List.{length-set}
use Rattle.rdm_added.specs.declared.state.CommonValues.{CommonValues}
use Rattle.rdm_added.specs.Spot.{sub_device}
use Rattle.rdm_added.specs.Views.State.{common_entries}
use Rattle.rdm_saved.specs.Carrying.{carried_device, carried_devices, subs_place}
use Rattle.rdm_saved.proofs.Restored.{others_after}
use Rattle.rdm_saved.proofs.Carried.{each_carried, piece_at, subs_carried}
use Rattle.rdm_saved.proofs.carrying.carry_subs.Goals as goal

pub loop-i-preserved : goal.loop-i-preserved
loop-i-preserved c =
    let i : ℕ = c.loop-i.i in
    let old : CommonValues = get_or c.loop-i.subs i c.index-subs-i.result in
    let image : List ℕ = c.args.image.now in
    let bytes = piece_at 46 i c.subs_place.result image ∙ ap (λ (n : ℕ). take 46 (drop (46 * i) (drop n image))) c.subs_place.ensures.value in
    record {
      done = each_carried c.args.profile.now image i c.loop-i.subs c.args.subs.now _ c.index-subs-i.result (drop (subs_place image) image) (omega (arith, c.loop-i-test.true, c.loop-i.invariant.count, c.min-count.ensures)) c.loop-i.invariant.count c.loop-i.invariant.done c.loop-i.invariant.others (c.carry_sub.ensures ∙ ap (carried_device (sub_device c.args.profile.now (common_entries old)) image (common_entries old)) bytes);
      others = others_after i c.loop-i.subs c.args.subs.now _ c.loop-i.invariant.others;
      count = length-set c.loop-i.subs i _ ∙ c.loop-i.invariant.count;
    }

pub returns : goal.returns
returns c =
    let image : List ℕ = c.args.image.now in
    subs_carried c.args.profile.now image c.carried_subs.result c.loop-i.i c.loop-i.subs c.args.subs.now (drop (subs_place image) image) (omega (arith, c.loop-i-test.false, c.loop-i.auto.i-end, c.min-count.ensures)) c.loop-i.invariant.done c.loop-i.invariant.others
    ∙ ap (λ (n : ℕ). carried_devices n c.args.profile.now image (map common_entries c.args.subs.now) (drop (subs_place image) image)) c.carried_subs.ensures.value
