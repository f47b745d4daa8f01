use Rattle.rdm_capture.proofs.Recorded.{capture_again}
use Rattle.rdm_capture.proofs.laws.capture_of_a_trace_is_read_back.Goals as goal

pub returns : goal.returns
returns c = capture_again
