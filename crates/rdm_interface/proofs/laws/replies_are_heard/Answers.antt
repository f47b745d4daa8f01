use Rattle.rdm_interface.proofs.Sessions.{replies_are_heard}
use Rattle.rdm_interface.proofs.laws.replies_are_heard.Goals as goal

pub returns : goal.returns
returns c = replies_are_heard
