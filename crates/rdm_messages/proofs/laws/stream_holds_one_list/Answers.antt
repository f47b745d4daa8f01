use Rattle.rdm_messages.proofs.Pieces.{one_list}
use Rattle.rdm_messages.proofs.laws.stream_holds_one_list.Goals as goal

pub returns : goal.returns
returns c = one_list
