-- The ranges of the data of commands.
use Rattle.std.specs.Prelude.{ℕ, false, ◌==◌, ◌&&◌, ◌||◌, not, nat_lt, nat_le, length, slice_get}
use Rattle.std.specs.Option.{option_map_or}
use Rattle.std.specs.List.{list_any}
use Rattle.rdm_device.specs.Device.Measuring.{records}
use Rattle.rdm_profile.specs.Values.{preset_in, for_byte, for_word}
use Rattle.rdm_added.specs.Spot.{Range, footprint, personalities, slots}
use Rattle.rdm_profile.specs.Forms.{Form, has_form}

-- every value of the form
abbrev pub any : Form → Range
any form spot v = has_form form v

-- the numbers below n
abbrev pub below : ℕ → Form → Range
below n form spot v = for_byte (λ b. nat_lt b n) v

-- a status type that QUEUED_MESSAGE can name: any but none
abbrev pub a_message_type : Form → Range
a_message_type form spot v = for_byte (λ n. nat_le 1 n && nat_le n 4) v

-- off, or report from this severity on: 00 none, 02 advisory, 03 warning, 04 error. Table A-4.
abbrev pub a_threshold : Form → Range
a_threshold form spot v = for_byte (λ b. (b == 0) || (b == 2) || (b == 3) || (b == 4)) v

-- a status ID of the profile
abbrev pub a_status : Form → Range
a_status form spot v = for_word (λ id. list_any (λ t. t.id == id) spot.profile.status_texts.items) v

-- a language of the profile
abbrev pub a_language : Form → Range
a_language form spot v = for_word (λ code. list_any (λ l. l == code) spot.profile.languages.items) v

-- a personality of the device, numbered from 1
abbrev pub a_personality : Form → Range
a_personality form spot v = for_byte (λ n. nat_le 1 n && nat_le n (length (personalities spot))) v

-- a start address, at a device that uses slots
abbrev pub a_start : Form → Range
a_start form spot v = for_word (λ n. nat_le 1 n && nat_le n 512 && not (footprint spot == 0)) v

-- a slot that the current personality uses, and the profile describes
abbrev pub a_slot : Form → Range
a_slot form spot v = for_word (λ n. nat_lt n (footprint spot) && nat_lt n (length (slots spot))) v

-- a sensor
abbrev pub a_sensor : Form → Range
a_sensor form spot v = for_byte (λ n. nat_lt n (length spot.profile.sensors.items)) v

-- a sensor or, if there is one, FF for all
abbrev pub sensors : Form → Range
sensors form spot v =
    for_byte (λ n. nat_lt n (length spot.profile.sensors.items) || ((n == 0xFF) && nat_lt 0 (length spot.profile.sensors.items))) v

-- a sensor that records its value or, if there is one, FF for all that do. Section 10.7.3.
abbrev pub recording_sensors : Form → Range
recording_sensors form spot v =
    for_byte (λ n. option_map_or records (slice_get spot.profile.sensors.items n) false || ((n == 0xFF) && list_any records spot.profile.sensors.items)) v

-- What a GET of LAMP_STATE may tell, and no SET asks for: 04 no lamp, 7F failure, and 80 to DF, which are the maker's. Section 10.8.4.
abbrev pub lamp_states_told : Form → Range
lamp_states_told form spot v = for_byte (λ n. (n == 0x04) || (n == 0x7F) || (nat_le 0x80 n && nat_le n 0xDF)) v

-- The same of LAMP_ON_MODE: 80 to DF, which are the maker's. Section 10.8.5.
abbrev pub lamp_modes_told : Form → Range
lamp_modes_told form spot v = for_byte (λ n. nat_le 0x80 n && nat_le n 0xDF) v

-- 00 full off, 01 shutdown, 02 standby, FF normal. Table A-11.
abbrev pub a_power_state : Form → Range
a_power_state form spot v = for_byte (λ b. (b == 0) || (b == 1) || (b == 2) || (b == 0xFF)) v

-- a test of the profile
abbrev pub a_test : Form → Range
a_test form spot v = for_byte (λ b. list_any (λ t. t.number == b) spot.profile.tests.items) v

-- off, a test of the profile, or FF for all tests
abbrev pub a_self_test : Form → Range
a_self_test form spot v = for_byte (λ b. (b == 0) || (b == 0xFF) || list_any (λ t. t.number == b) spot.profile.tests.items) v

-- off, a preset of the profile, or FFFF for all presets, at any level
abbrev pub a_preset : Form → Range
a_preset form spot v = option_map_or (λ p. nat_le p.0 spot.profile.presets || (p.0 == 0xFFFF)) (preset_in v) false
