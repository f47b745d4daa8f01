use Rattle.rdm_widget.proofs.Rigs.{one_replies}
use Rattle.rdm_widget.proofs.laws.rig_of_one_replies_as_its_fixture.Goals as goal

pub returns : goal.returns
returns c = λ rule now s bytes. one_replies now rule s bytes
