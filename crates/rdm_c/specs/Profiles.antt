-- The profile that a plain struct of C's stands for, and five lists that lie outside of it: the parameters of the maker's own, the PIDs of
-- those that are left out, the names of choices, the modes, and the slots of these. A count that is greater than its array stands for the
-- whole array.
use Rattle.std.specs.Prelude.{ℕ, ◌&&◌, List, ◌==◌, not, map, take, Option, Some, None, if◌then◌else◌}
use Rattle.rdm_frame.specs.declared.uid.Uid.{Uid}
use Rattle.rdm_frame.specs.Reading.{uid_at}
use Rattle.rdm_profile.specs.declared.profile.Personality.{Personality}
use Rattle.rdm_profile.specs.declared.profile.Profile.{Profile}
use Rattle.rdm_profile.specs.declared.profile.SelfTest.{SelfTest}
use Rattle.rdm_profile.specs.declared.profile.SensorDef.{SensorDef}
use Rattle.rdm_profile.specs.declared.profile.StatusText.{StatusText}
use Rattle.rdm_profile.specs.declared.profile.Unit.{Unit as DeviceUnit}
use Rattle.rdm_profile.specs.declared.profile.estimates.Estimates.{Estimates}
use Rattle.rdm_profile.specs.declared.profile.mute_reply.MuteReply.{MuteReply}
use Rattle.rdm_profile.specs.declared.profile.particulars.Particular.{Particular}
use Rattle.rdm_profile.specs.declared.profile.workers.Worker.{Worker}
use Rattle.rdm_profile.specs.declared.profile.workers.Worker.TheVariants.{First, Second}
use Rattle.rdm_profile.specs.declared.profile.workers.Workers.{Workers}
use Rattle.rdm_profile.specs.Estimates.{usual}
use Rattle.rdm_profile.specs.Particulars.{usual_particular}
use Rattle.rdm_profile.specs.Workers.{usual_workers}
use Rattle.rdm_c.specs.declared.profile.PersonalityNumbers.{PersonalityNumbers}
use Rattle.rdm_c.specs.declared.profile.SlotNumbers.{SlotNumbers}
use Rattle.rdm_c.specs.declared.profile.SensorNumbers.{SensorNumbers}
use Rattle.rdm_c.specs.declared.profile.SelfTestNumbers.{SelfTestNumbers}
use Rattle.rdm_c.specs.declared.profile.StatusTextNumbers.{StatusTextNumbers}
use Rattle.rdm_c.specs.declared.profile.slow.EstimatesNumbers.{EstimatesNumbers}
use Rattle.rdm_c.specs.declared.profile.slow.WorkersNumbers.{WorkersNumbers}
use Rattle.rdm_c.specs.declared.profile.UnitNumbers.{UnitNumbers}
use Rattle.rdm_c.specs.declared.profile.ProfileNumbers.{ProfileNumbers}
use Rattle.rdm_c.specs.declared.profile.modes.ModeNumbers.{ModeNumbers}
use Rattle.rdm_c.specs.declared.profile.parameters.ParameterNumbers.{ParameterNumbers}
use Rattle.rdm_c.specs.declared.profile.parameters.ChoiceNumbers.{ChoiceNumbers}
use Rattle.rdm_c.specs.Modes.{mode_in, slot_in}
use Rattle.rdm_c.specs.Parameters.{parameter_in, choice_in, lock_in}
use Rattle.rdm_c.specs.Texts.{text_in}

abbrev pub personality_in : PersonalityNumbers → Personality
personality_in p = record { footprint = p.footprint; name = text_in p.name }

abbrev pub sensor_in : SensorNumbers → SensorDef
sensor_in s = record {
  kind = s.kind;
  unit = s.unit;
  prefix = s.prefix;
  low = s.low;
  high = s.high;
  normal_low = s.normal_low;
  normal_high = s.normal_high;
  support = s.support;
  name = text_in s.name;
  at_once = not (s.at_once == 0);
}

abbrev pub test_in : SelfTestNumbers → SelfTest
test_in t = record { number = t.number; name = text_in t.name }

abbrev pub status_text_in : StatusTextNumbers → StatusText
status_text_in s = record { id = s.id; text = text_in s.text }

-- a time, or for 0 the usual one
abbrev pub or_usual : ℕ → ℕ → ℕ
or_usual time usual_time = if time == 0 then usual_time else time

abbrev pub estimates_in : EstimatesNumbers → Estimates
estimates_in e = record {
  lamp = or_usual e.lamp usual.lamp;
  power = or_usual e.power usual.power;
  self_test = or_usual e.self_test usual.self_test;
  sensor = or_usual e.sensor usual.sensor;
}

-- the worker of a number, or for 0 the usual one
abbrev pub worker_or : ℕ → Worker → Worker
worker_or number usual_worker = if number == 0 then usual_worker else if number == 1 then First else Second

abbrev pub workers_in : WorkersNumbers → Workers
workers_in ws = record {
  lamp = worker_or ws.lamp usual_workers.lamp;
  power = worker_or ws.power usual_workers.power;
  self_test = worker_or ws.self_test usual_workers.self_test;
  sensor = worker_or ws.sensor usual_workers.sensor;
}

-- the UID that stands in six slots, or none if they are zeros. E1.20 section 7.6.
abbrev pub binding_in : List ℕ → Option Uid
binding_in slots = if ((uid_at slots 0).maker == 0) && ((uid_at slots 0).device == 0) then None else Some (uid_at slots 0)

-- what is told when the device is muted or un-muted
abbrev pub mute_reply_in : ProfileNumbers → MuteReply
mute_reply_in p = record {
  proxied_device = not (p.proxied_device == 0);
  boot_loader = not (p.boot_loader == 0);
  binding = binding_in p.binding_uid;
}

abbrev pub unit_in : UnitNumbers → DeviceUnit
unit_in u = record {
  model = u.model;
  category = u.category;
  software = u.software;
  model_text = text_in u.model_text;
  maker_text = text_in u.maker_text;
  label = text_in u.label;
  software_text = text_in u.software_text;
  personalities = record { items = map personality_in (take u.personality_count u.personalities) };
  start = u.start;
}

-- the profile of the struct, if nothing sets it apart from one that has the standard's parameters as the table has them
abbrev pub plain_profile_in : ProfileNumbers → Profile
plain_profile_in p = record {
  root = unit_in p.root;
  sub = unit_in p.sub;
  subs = p.subs;
  presets = p.presets;
  workers = workers_in p.workers;
  boot = p.boot;
  boot_text = text_in p.boot_text;
  languages = record { items = take p.language_count p.languages };
  slots = record { items = map slot_in (take p.slot_count p.slots) };
  sensors = record { items = map sensor_in (take p.sensor_count p.sensors) };
  tests = record { items = map test_in (take p.test_count p.tests) };
  status_texts = record { items = map status_text_in (take p.status_text_count p.status_texts) };
  particulars = usual_particular;
}

-- what sets it apart, of the struct and of the five lists
abbrev pub particular_in : ProfileNumbers → List ParameterNumbers → List ℕ → List ChoiceNumbers → List ModeNumbers → List SlotNumbers → Particular
particular_in p parameters without choices modes slots = record {
  own = map parameter_in parameters;
  choices = map choice_in choices;
  locks = map lock_in (take p.lock_count p.locks);
  without = record { items = without };
  more_slots = p.more_slots;
  estimates = estimates_in p.estimates;
  mute_reply = mute_reply_in p;
  newest_only = not (p.newest_only == 0);
  modes = map (mode_in slots) modes;
}

-- the profile of the struct and of the five lists
abbrev pub profile_in : ProfileNumbers → List ParameterNumbers → List ℕ → List ChoiceNumbers → List ModeNumbers → List SlotNumbers → Profile
profile_in p parameters without choices modes slots =
    record (plain_profile_in p) { particulars = particular_in p parameters without choices modes slots }
