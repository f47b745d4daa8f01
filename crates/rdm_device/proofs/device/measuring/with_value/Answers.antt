use Rattle.std.proofs.Common.{rules, ◌≡◌, ◌∙◌, ap, w16, ℤ, SFits, to_z, of_z}
use Rattle.std.specs.Int.{int_min, int_max}
use Rattle.std.proofs.lemmas.Int.{to_z-of_z}
use Rattle.rdm_device.proofs.SensorReads.{reading_is}
use Rattle.rdm_device.proofs.device.measuring.with_value.Goals as goal

pub returns : goal.returns
returns c before el eh er =
    let low = to_z-of_z w16 c.args.lowest c.ranges.lowest in
    let high = to_z-of_z w16 c.args.highest c.ranges.highest in
    let now = to_z-of_z w16 c.args.value c.ranges.value in
    let least : SFits w16 c.min.result = search rules in
    let greatest : SFits w16 c.max.result = search rules in
    let min_is : c.min.result ≡ int_min c.args.lowest c.args.value = c.min.ensures.value ∙ ap (λ (z : ℤ). int_min z (to_z w16 (of_z w16 c.args.value))) low ∙ ap (int_min c.args.lowest) now in
    let max_is : c.max.result ≡ int_max c.args.highest c.args.value = c.max.ensures.value ∙ ap (λ (z : ℤ). int_max z (to_z w16 (of_z w16 c.args.value))) high ∙ ap (int_max c.args.highest) now in
    reading_is before c.args.value c.args.lowest c.args.highest c.args.recorded _ _ _ _ c.ranges.lowest c.ranges.highest el eh er now (to_z-of_z w16 c.min.result least ∙ min_is) (to_z-of_z w16 c.max.result greatest ∙ max_is) (to_z-of_z w16 c.args.recorded c.ranges.recorded)
