use Rattle.rdm_entry.proofs.Lengths.{data_has}
use Rattle.rdm_entry.proofs.laws.data_have_the_slots_of_their_fields.Goals as goal

pub returns : goal.returns
returns c = data_has
