use Rattle.rdm_fixture.proofs.Equality.{fixture_decides}
use Rattle.rdm_fixture.proofs.laws.fixtures_are_equal_by_value.Goals as goal

pub returns : goal.returns
returns c =
    fixture_decides c.uids_are_equal_by_value.ensures c.profiles_are_equal_by_value.ensures c.rules_are_equal_by_value.ensures c.starts_are_equal_by_value.ensures
