use Rattle.rdm_interface.proofs.Alikes.{late_answers}
use Rattle.rdm_interface.proofs.laws.late_answers_are_passed_over.Goals as goal

pub returns : goal.returns
returns c = late_answers
