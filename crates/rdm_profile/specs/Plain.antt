-- A profile to begin with.
use Rattle.std.specs.Prelude.{ℕ, List, []}
use Rattle.rdm_profile.specs.declared.profile.Profile.{Profile}
use Rattle.rdm_profile.specs.declared.profile.Unit.{Unit as DeviceUnit}
use Rattle.rdm_profile.specs.Particulars.{usual_particular}
use Rattle.rdm_profile.specs.Workers.{usual_workers}

-- a device with these texts, no personality and no software version, labelled as its model, with start address 1
abbrev pub plain_unit : ℕ → ℕ → List ℕ → List ℕ → DeviceUnit
plain_unit model category model_text maker_text = record {
  model = model;
  category = category;
  software = 0;
  model_text = model_text;
  maker_text = maker_text;
  label = model_text;
  software_text = [];
  personalities = record { items = [] };
  start = 1;
}

-- these devices, with nothing else, and the usual estimates and workers
abbrev pub plain_profile : DeviceUnit → DeviceUnit → ℕ → Profile
plain_profile root sub subs = record {
  root = root;
  sub = sub;
  subs = subs;
  presets = 0;
  workers = usual_workers;
  boot = 0;
  boot_text = [];
  languages = record { items = [] };
  slots = record { items = [] };
  sensors = record { items = [] };
  tests = record { items = [] };
  status_texts = record { items = [] };
  particulars = usual_particular;
}
