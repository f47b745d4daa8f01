use Rattle.rdm_profile.proofs.Equality.{workers_decide}
use Rattle.rdm_profile.proofs.laws.choices_of_workers_are_equal_by_value.Goals as goal

pub returns : goal.returns
returns c = workers_decide c.workers_are_equal_by_value.ensures
