use Rattle.rdm_fixture_keys.proofs.RefusalEquality.{refusal_decides}
use Rattle.rdm_fixture_keys.proofs.laws.refusals_are_equal_by_value.Goals as goal

pub returns : goal.returns
returns c = refusal_decides c.sections_are_equal_by_value.ensures c.entries_are_equal_by_value.ensures c.wanteds_are_equal_by_value.ensures
