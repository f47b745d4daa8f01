-- A profile and a fixture that are read before there is memory for what takes memory in them.
use Rattle.rdm_profile.specs.declared.profile.Profile.{Profile}
use Rattle.rdm_profile.specs.declared.profile.particulars.Particular.{Particular}
use Rattle.rdm_fixture.specs.declared.fixture.Fixture.{Fixture}
use Rattle.rdm_fixture.specs.declared.profile.Apart.{Apart}

-- the same in a profile
abbrev pub particular_from : Apart → Particular
particular_from a = record {
  own = a.added.own.items;
  choices = a.added.choices.items;
  locks = a.added.locks.items;
  without = a.without;
  more_slots = a.more_slots;
  estimates = a.estimates;
  mute_reply = a.mute_reply;
  newest_only = a.newest_only;
  modes = a.modes;
}

-- the same set apart by this
abbrev pub profile_with : Profile → Apart → Profile
profile_with p a = record p { particulars = particular_from a }

abbrev pub fixture_with : Fixture → Apart → Fixture
fixture_with f a = record f { profile = profile_with f.profile a }
