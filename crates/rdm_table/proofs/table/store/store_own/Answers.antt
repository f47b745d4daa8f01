use Rattle.rdm_table.specs.Table.Rows.{row_of}
use Rattle.rdm_table.proofs.table.store.store_own.Goals as goal

pub returns-in-SensorValue-clause-after : goal.returns-in-SensorValue-clause-after
unfolding row_of
returns-in-SensorValue-clause-after c = rw c.in-SensorValue.is (λ spot e f. c.sensors_reset.ensures.after spot e f)

pub returns-in-RecordSensors-clause-after : goal.returns-in-RecordSensors-clause-after
unfolding row_of
returns-in-RecordSensors-clause-after c = rw c.in-RecordSensors.is (λ spot e f. c.sensors_recorded.ensures.after spot e f)
