use Rattle.rdm_profile.proofs.Equality.{lock_decides}
use Rattle.rdm_profile.proofs.laws.locks_are_equal_by_value.Goals as goal

pub returns : goal.returns
returns c = lock_decides
