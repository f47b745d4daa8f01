use Rattle.rdm_capture.proofs.Written.{file_again}
use Rattle.rdm_capture.proofs.laws.written_packets_are_read_back.Goals as goal

pub returns : goal.returns
returns c = file_again
