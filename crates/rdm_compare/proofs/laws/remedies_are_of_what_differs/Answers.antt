use Rattle.rdm_compare.proofs.Restoring.{no_remedies, nothing_to_set}
use Rattle.rdm_compare.proofs.laws.remedies_are_of_what_differs.Goals as goal

pub returns-clause-needed : goal.returns-clause-needed
returns-clause-needed c = no_remedies

pub returns-clause-complete : goal.returns-clause-complete
returns-clause-complete c = nothing_to_set
