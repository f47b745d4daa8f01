use Rattle.rdm_courses.proofs.Equality.{courses_decide}
use Rattle.rdm_courses.proofs.laws.courses_are_equal_by_value.Goals as goal

pub returns : goal.returns
returns c = courses_decide c.points_are_equal_by_value.ensures c.ways_are_equal_by_value.ensures
