use Rattle.std.proofs.Common.{rules, ap, ◌∙◌, w16, ℤ, get_or}
use Rattle.std.proofs.lemmas.Int.{to_z-of_z}
use Rattle.rdm_device.specs.Device.Measuring.{measured}
use Rattle.rdm_added.specs.Views.State.{measured_slots}
use Rattle.rdm_device.proofs.SensorReads.{one_measures, none_measures}
use Rattle.rdm_added.proofs.SensorStarts.{unmeasured}
use Rattle.rdm_device.proofs.device.measuring.measure_among.Goals as goal

pub returns-then-index-sensors : goal.returns-then-index-sensors
returns-then-index-sensors c =
    let before = measured_slots (get_or c.args.sensors.now c.args.index unmeasured) in
    one_measures c.args.index (measured c.args.value) c.args.sensors.now c.with_reading.result unmeasured c.if-index-sensors.true (c.with_reading.ensures ∙ ap (λ (z : ℤ). measured z before) (to_z-of_z w16 c.args.value c.ranges.value))

pub returns-else-index-sensors : goal.returns-else-index-sensors
returns-else-index-sensors c = none_measures c.args.index (measured c.args.value) c.args.sensors.now (search rules)
