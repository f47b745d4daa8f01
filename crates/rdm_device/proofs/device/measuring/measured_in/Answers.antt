use Rattle.std.proofs.Common.{rules}
use Rattle.rdm_device.proofs.SensorReads.{nine_again}
use Rattle.rdm_device.proofs.device.measuring.measured_in.Goals as goal

pub returns-in-len9 : goal.returns-in-len9
returns-in-len9 c =
    nine_again c.args.slots.now c.signed_of.result c.signed_of-in-len9.result c.signed_of-in-len9-2.result c.signed_of-in-len9-3.result (search rules) (search rules) (search rules) (search rules) (search rules) (search rules) (search rules) (search rules) (search rules)
