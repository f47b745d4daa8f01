use Rattle.rdm_receiver.specs.Signals.{since_break}
use Rattle.rdm_receiver.specs.Receiving.{HasHeard}
use Rattle.rdm_receiver.proofs.Keeping.{waiting}
use Rattle.rdm_receiver.proofs.laws.zeros_have_heard_nothing.Goals as goal

pub returns : goal.returns
unfolding HasHeard since_break
returns c = λ r none zero. waiting r zero
