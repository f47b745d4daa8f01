-- What is known of one fixture, of all that is known.
use Rattle.std.specs.Prelude.{Bool, false, Option, Some, None, if◌then◌else◌}
use Rattle.rdm_frame.specs.declared.uid.Uid.{Uid}
use Rattle.rdm_frame.specs.Addressing.{same_uid}
use Rattle.rdm_words.specs.declared.data.known.Facts.{Facts}
use Rattle.rdm_words.specs.declared.data.known.Known.{Known}

-- it is this fixture's profile that is known
abbrev pub is_profile_of : Option Uid → Uid → Bool
is_profile_of None uid = false
is_profile_of (Some own) uid = same_uid own uid

-- What is known of the fixture with this UID: its profile, if it is that one's, and what that fixture said of itself.
abbrev pub facts_at : Known → Uid → Facts
facts_at known uid = record { parts = if is_profile_of known.uid uid then known.parts else None; uid = Some uid; learned = known.learned }
