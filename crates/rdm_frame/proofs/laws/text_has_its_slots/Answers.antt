use Rattle.rdm_frame.proofs.Texts.{has_slots}
use Rattle.rdm_frame.proofs.laws.text_has_its_slots.Goals as goal

pub returns : goal.returns
returns c = has_slots
