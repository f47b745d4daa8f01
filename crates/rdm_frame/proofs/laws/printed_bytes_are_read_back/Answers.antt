use Rattle.rdm_frame.proofs.Spellings.{bytes_spelled}
use Rattle.rdm_frame.proofs.laws.printed_bytes_are_read_back.Goals as goal

pub returns : goal.returns
returns c = bytes_spelled
