use Rattle.rdm_profile.proofs.Equality.{mute_reply_decides}
use Rattle.rdm_profile.proofs.laws.mute_replies_are_equal_by_value.Goals as goal

pub returns : goal.returns
returns c = mute_reply_decides c.uids_are_equal_by_value.ensures
