-- What is kept of a survey.
use Rattle.std.specs.Prelude.{List, map, option_map, option_and_then}
use Rattle.rdm_survey.specs.declared.device_info.DeviceInfo.{DeviceInfo}
use Rattle.rdm_survey.specs.declared.row.Row.{Row}
use Rattle.rdm_compare.specs.declared.kept.Kept.{Kept}

-- What is kept of a fixture. What it didn't tell isn't there.
abbrev pub kept_of : Row → Kept
kept_of row = record {
  uid = row.uid;
  manufacturer = row.manufacturer;
  model = row.model;
  model_id = option_map (λ (device : DeviceInfo). device.model_id) row.device;
  label = row.label;
  software = row.software;
  software_id = option_map (λ (device : DeviceInfo). device.software_id) row.device;
  personality = option_map (λ (device : DeviceInfo). device.personality) row.device;
  personality_name = row.personality;
  personalities = option_map (λ (device : DeviceInfo). device.personalities) row.device;
  address = option_and_then (λ (device : DeviceInfo). device.address) row.device;
  footprint = option_map (λ (device : DeviceInfo). device.footprint) row.device;
  hours = row.hours;
  sub_devices = row.sub_devices.items;
}

abbrev pub kept_rows : List Row → List Kept
kept_rows rows = map kept_of rows
