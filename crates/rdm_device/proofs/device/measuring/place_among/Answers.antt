use Rattle.std.proofs.Common.{rules, List, ℕ, drop}
use Rattle.rdm_device.proofs.SensorReads.{one_measures, none_measures}
use Rattle.rdm_added.proofs.SensorStarts.{unmeasured}
use Rattle.rdm_device.proofs.device.measuring.place_among.Goals as goal

pub returns-then-index-sensors : goal.returns-then-index-sensors
returns-then-index-sensors c =
    one_measures c.args.index (λ (bytes : List ℕ). drop 1 c.args.slots.now) c.args.sensors.now c.measured_in.result unmeasured c.if-index-sensors.true c.measured_in.ensures

pub returns-else-index-sensors : goal.returns-else-index-sensors
returns-else-index-sensors c =
    none_measures c.args.index (λ (bytes : List ℕ). drop 1 c.args.slots.now) c.args.sensors.now (search rules)
