use Rattle.rdm_profile.proofs.Equality.{particular_decides}
use Rattle.rdm_profile.proofs.laws.particulars_are_equal_by_value.Goals as goal

pub returns : goal.returns
returns c = particular_decides c.parameter_defs_are_equal_by_value.ensures c.choice_names_are_equal_by_value.ensures c.locks_are_equal_by_value.ensures c.estimates_are_equal_by_value.ensures c.mute_replies_are_equal_by_value.ensures c.modes_are_equal_by_value.ensures
