use Rattle.rdm_saved.proofs.SameDevices.{one_make}
use Rattle.rdm_saved.proofs.laws.same_devices_are_of_one_make.Goals as goal

pub returns : goal.returns
returns c = one_make
