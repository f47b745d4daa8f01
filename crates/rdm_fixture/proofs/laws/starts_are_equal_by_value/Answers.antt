use Rattle.rdm_fixture.proofs.Equality.{starting_decides}
use Rattle.rdm_fixture.proofs.laws.starts_are_equal_by_value.Goals as goal

pub returns : goal.returns
returns c = starting_decides c.courses_are_equal_by_value.ensures c.notices_are_equal_by_value.ensures
