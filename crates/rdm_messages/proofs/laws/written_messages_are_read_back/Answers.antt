use Rattle.rdm_messages.proofs.Pieces.{read_back}
use Rattle.rdm_messages.proofs.laws.written_messages_are_read_back.Goals as goal

pub returns : goal.returns
returns c = read_back
