-- What DEVICE_INFO tells. E1.20 section 10.5.1.
use Rattle.std.specs.Prelude.{ℕ, ◌+◌, ◌==◌, List, [], ◌∷◌, length, slice_index, Option, Some, None, if◌then◌else◌}
use Rattle.std.specs.Int.{w16, w32, from_be_bytes}
use Rattle.rdm_survey.specs.declared.device_info.DeviceInfo.{DeviceInfo}

-- the number in the two slots from a place on, and in the four from there on: the most significant byte first
abbrev pub word_at : List ℕ → ℕ → ℕ
word_at slots i = from_be_bytes w16 (slice_index slots i ∷ slice_index slots (i + 1) ∷ [])

abbrev pub long_at : List ℕ → ℕ → ℕ
long_at slots i = from_be_bytes w32 (slice_index slots i ∷ slice_index slots (i + 1) ∷ slice_index slots (i + 2) ∷ slice_index slots (i + 3) ∷ [])

-- the start address in its field, where 0xFFFF says that there is none
abbrev pub address_in : ℕ → Option ℕ
address_in field = if field == 0xFFFF then None else Some field

-- What 19 slots of parameter data tell; other data tell nothing.
abbrev pub device_info_in : List ℕ → Option DeviceInfo
device_info_in slots = if length slots == 19 then Some (record {
  model_id = word_at slots 2;
  category = word_at slots 4;
  software_id = long_at slots 6;
  footprint = word_at slots 10;
  personality = slice_index slots 12;
  personalities = slice_index slots 13;
  address = address_in (word_at slots 14);
  sub_devices = word_at slots 16;
  sensors = slice_index slots 18;
}) else None
