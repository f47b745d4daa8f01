use Rattle.rdm_profile.proofs.Equality.{choice_decides}
use Rattle.rdm_profile.proofs.laws.choice_names_are_equal_by_value.Goals as goal

pub returns : goal.returns
returns c = choice_decides
