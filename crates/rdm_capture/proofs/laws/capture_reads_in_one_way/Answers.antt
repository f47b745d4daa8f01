use Rattle.rdm_capture.proofs.Once.{has_once}
use Rattle.rdm_capture.proofs.laws.capture_reads_in_one_way.Goals as goal

pub returns : goal.returns
returns c = has_once
