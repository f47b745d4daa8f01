-- The profile of a demonstration device.
use Rattle.std.specs.Prelude.{ℕ, false, pos, neg_ℤ, List, [], ◌∷◌, codes}
use Rattle.rdm_profile.specs.declared.profile.Personality.{Personality}
use Rattle.rdm_profile.specs.declared.profile.Profile.{Profile}
use Rattle.rdm_profile.specs.declared.profile.SelfTest.{SelfTest}
use Rattle.rdm_profile.specs.declared.profile.SensorDef.{SensorDef}
use Rattle.rdm_profile.specs.declared.profile.Slot.{Slot}
use Rattle.rdm_profile.specs.declared.profile.StatusText.{StatusText}
use Rattle.rdm_profile.specs.declared.profile.Unit.{Unit as DeviceUnit}
use Rattle.rdm_profile.specs.Particulars.{usual_particular}
use Rattle.rdm_profile.specs.Workers.{usual_workers}

abbrev personality : ℕ → List ℕ → Personality
personality footprint name = record { footprint = footprint; name = name }

abbrev slot : ℕ → ℕ → ℕ → List ℕ → Slot
slot kind label value name = record { kind = kind; label = label; value = value; name = name }

abbrev test : ℕ → List ℕ → SelfTest
test number name = record { number = number; name = name }

abbrev status : ℕ → List ℕ → StatusText
status id text = record { id = id; text = text }

-- a sensor from -20 to 120 degrees, in normal use from 0 to 80
abbrev pub demo_sensor : List ℕ → SensorDef
demo_sensor name = record {
  kind = 0x00;
  unit = 0x01;
  prefix = 0x00;
  low = neg_ℤ (pos 20);
  high = pos 120;
  normal_low = pos 0;
  normal_high = pos 80;
  support = 0x03;
  at_once = false;
  name = name;
}

unfoldable pub demo_root : DeviceUnit
demo_root = record {
  model = 0x0011;
  category = 0x0102;
  software = 0x00000100;
  model_text = codes "Moving head";
  maker_text = codes "Prototype";
  label = codes "Fixture";
  software_text = codes "1.0";
  personalities = record { items = personality 3 (codes "Basic") ∷ personality 5 (codes "Fine") ∷ [] };
  start = 1;
}

unfoldable pub demo_sub : DeviceUnit
demo_sub = record {
  model = 0x0012;
  category = 0x0102;
  software = 0x00000100;
  model_text = codes "Cell module";
  maker_text = codes "Prototype";
  label = codes "Cell";
  software_text = codes "1.0";
  personalities = record { items = personality 1 (codes "Cell") ∷ [] };
  start = 1;
}

unfoldable pub demo_slots : List Slot
demo_slots =
    slot 0x00 0x0001 0x00 (codes "Intensity")
    ∷ slot 0x00 0x0101 0x80 (codes "Pan")
    ∷ slot 0x00 0x0102 0x80 (codes "Tilt")
    ∷ slot 0x01 0x0001 0x00 (codes "Pan fine")
    ∷ slot 0x01 0x0002 0x00 (codes "Tilt fine")
    ∷ []

unfoldable pub demo_sensors : List SensorDef
demo_sensors = demo_sensor (codes "Lamp temperature") ∷ demo_sensor (codes "Head temperature") ∷ []

unfoldable pub demo_tests : List SelfTest
demo_tests = test 1 (codes "Lamp") ∷ test 2 (codes "Motors") ∷ []

unfoldable pub demo_statuses : List StatusText
demo_statuses = status 0x8001 (codes "Lamp failed to strike") ∷ status 0x8002 (codes "Self test failed") ∷ []

-- the languages are English and German
unfoldable pub demo : ℕ → Profile
demo subs = record {
  root = demo_root;
  sub = demo_sub;
  subs = subs;
  presets = 4;
  workers = usual_workers;
  boot = 0x00000001;
  boot_text = codes "Boot 1.0";
  languages = record { items = 0x656E ∷ 0x6465 ∷ [] };
  slots = record { items = demo_slots };
  sensors = record { items = demo_sensors };
  tests = record { items = demo_tests };
  status_texts = record { items = demo_statuses };
  particulars = usual_particular;
}
