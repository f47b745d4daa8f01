-- The fixture of a file that stands in for the one that answered. What answers can't tell is as a file has it that says nothing.
use Rattle.std.specs.Prelude.{ℕ, false, List, [], take}
use Rattle.rdm_profile.specs.declared.profile.Profile.{Profile}
use Rattle.rdm_profile.specs.declared.profile.estimates.Estimates.{Estimates}
use Rattle.rdm_profile.specs.declared.profile.particulars.Particular.{Particular}
use Rattle.rdm_profile.specs.MuteReply.{plain_reply}
use Rattle.rdm_profile.specs.Workers.{usual_workers}
use Rattle.rdm_frame.specs.declared.uid.Uid.{Uid}
use Rattle.rdm_fixture.specs.declared.fixture.Fixture.{Fixture}
use Rattle.rdm_fixture.specs.declared.starting.Starting.{Starting}
use Rattle.rdm_fixture.specs.OverTime.{no_courses}
use Rattle.rdm_describe.specs.declared.answers.Answer.{Answer}
use Rattle.rdm_describe.specs.Answers.{data_of, long_at}
use Rattle.rdm_describe.specs.Added.{choices_of, parameters_of}
use Rattle.rdm_describe.specs.Parts.{languages_of, more_slots_of, presents_of, sensor_estimate, sensors_of, slots_of, statuses_of, sub_count, sub_of, tests_of, unit_of, without_of}
use Rattle.rdm_describe.specs.Scenes.{preset_count}
use Rattle.rdm_describe.specs.Texts.{text_of}

-- How long SENSOR_VALUE takes was told; of the others nothing is.
abbrev pub estimates_with : ℕ → Estimates
estimates_with sensor = record { lamp = 50; power = 20; self_test = 100; sensor = sensor }

abbrev pub particular_of : List Answer → Particular
particular_of answers = record {
  own = take 32 (parameters_of answers);
  choices = take 64 (choices_of answers);
  locks = [];
  without = record { items = take 36 (without_of answers) };
  more_slots = more_slots_of answers;
  estimates = estimates_with (sensor_estimate answers);
  mute_reply = plain_reply;
  newest_only = false;
  modes = [];
}

abbrev pub profile_of : List Answer → Profile
profile_of answers = record {
  root = unit_of answers 0;
  sub = unit_of answers (sub_of answers);
  subs = sub_count answers;
  presets = preset_count answers;
  workers = usual_workers;
  boot = long_at (data_of answers 0 0x00C1 0) 0;
  boot_text = text_of (data_of answers 0 0x00C2 0);
  languages = record { items = take 8 (languages_of answers) };
  slots = record { items = take 46 (slots_of answers) };
  sensors = record { items = take 8 (sensors_of answers) };
  tests = record { items = take 8 (tests_of answers) };
  status_texts = record { items = take 8 (statuses_of answers) };
  particulars = particular_of answers;
}

-- what its counters and its sensors show now. Sections 10.7.2 and 10.8.
abbrev pub start_of : List Answer → Starting
start_of answers = record {
  device_hours = long_at (data_of answers 0 0x0400 0) 0;
  lamp_hours = long_at (data_of answers 0 0x0401 0) 0;
  lamp_strikes = long_at (data_of answers 0 0x0402 0) 0;
  device_power_cycles = long_at (data_of answers 0 0x0405 0) 0;
  presents = record { items = take 8 (presents_of answers) };
  courses = record { items = no_courses (take 8 (sensors_of answers)) };
  notices = record { items = [] };
}

abbrev pub fixture_of : Uid → List Answer → Fixture
fixture_of uid answers = record {
  uid = uid;
  profile = profile_of answers;
  outcomes = record { items = [] };
  start = start_of answers;
}
