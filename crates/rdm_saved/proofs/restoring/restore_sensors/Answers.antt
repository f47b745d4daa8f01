use Rattle.std.proofs.Common.{rules, ℤ, List, ℕ, ◌++◌, take, get_or, ap, ◌∙◌, w16, SFits, arith}
use Rattle.std.proofs.lemmas.Int.{to_z-of_z}
use Rattle.std.proofs.lemmas.List.{length-set}
use Rattle.rdm_profile.specs.Values.{signed_slots}
use Rattle.rdm_added.specs.Views.State.{measured_slots}
use Rattle.rdm_added.proofs.SensorStarts.{unmeasured}
use Rattle.rdm_saved.proofs.Restored.{sensor_restored, others_after}
use Rattle.rdm_saved.proofs.restoring.restore_sensors.Goals as goal

pub loop-i-preserved : goal.loop-i-preserved
loop-i-preserved c =
    let fits : SFits w16 c.signed_of.result = search rules in
    let before = take 6 (measured_slots (get_or c.loop-i.sensors c.loop-i.i unmeasured)) in
    record {
      done = sensor_restored c.loop-i.i c.loop-i.sensors c.args.sensors.now _ unmeasured c.args.bytes.now (omega (arith, c.loop-i-test.true, c.loop-i.invariant.count)) c.loop-i.invariant.count c.requires c.loop-i.invariant.done c.loop-i.invariant.others (ap (λ (z : ℤ). before ++ signed_slots z) (to_z-of_z w16 c.signed_of.result fits) ∙ ap (λ (bytes : List ℕ). before ++ bytes) c.signed_of.ensures);
      others = others_after c.loop-i.i c.loop-i.sensors c.args.sensors.now _ c.loop-i.invariant.others;
      count = length-set c.loop-i.sensors c.loop-i.i _ ∙ c.loop-i.invariant.count;
    }
