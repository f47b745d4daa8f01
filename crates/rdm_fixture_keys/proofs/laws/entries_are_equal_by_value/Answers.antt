use Rattle.rdm_fixture_keys.proofs.RefusalEquality.{entry_decides}
use Rattle.rdm_fixture_keys.proofs.laws.entries_are_equal_by_value.Goals as goal

pub returns : goal.returns
returns c = entry_decides
