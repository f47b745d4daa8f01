use Rattle.rdm_profile.proofs.Equality.{profile_decides}
use Rattle.rdm_profile.proofs.laws.profiles_are_equal_by_value.Goals as goal

pub returns : goal.returns
returns c = profile_decides c.units_are_equal_by_value.ensures c.slots_are_equal_by_value.ensures c.sensor_defs_are_equal_by_value.ensures c.self_tests_are_equal_by_value.ensures c.status_texts_are_equal_by_value.ensures c.choices_of_workers_are_equal_by_value.ensures c.particulars_are_equal_by_value.ensures
