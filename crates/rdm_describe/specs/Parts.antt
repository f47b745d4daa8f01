-- What the answers of a fixture tell of its parts. E1.20 sections 10.5 to 10.11.
use Rattle.std.specs.Prelude.{ℕ, zero, suc, ◌+◌, ◌-◌, ◌*◌, ◌/◌, min, max, Bool, true, false, not, ◌==◌, ◌&&◌, ◌||◌, nat_le, if◌then◌else◌, List, [], ◌∷◌, ◌++◌, length, take, drop, slice_index, Option, Some, None, is_some, is_none, ℤ}
use Rattle.std.specs.List.{flat_map, list_any}
use Rattle.std.specs.Option.{option_to_list}
use Rattle.rdm_profile.specs.declared.profile.Personality.{Personality}
use Rattle.rdm_profile.specs.declared.profile.SelfTest.{SelfTest}
use Rattle.rdm_profile.specs.declared.profile.SensorDef.{SensorDef}
use Rattle.rdm_profile.specs.declared.profile.Slot.{Slot}
use Rattle.rdm_profile.specs.declared.profile.StatusText.{StatusText}
use Rattle.rdm_profile.specs.declared.profile.Unit.{Unit as DeviceUnit}
use Rattle.rdm_profile.specs.LeftOut.{needs, optional_pids}
use Rattle.rdm_describe.specs.declared.answers.Answer.{Answer}
use Rattle.rdm_describe.specs.Answers.{data_of, each, estimate_of, has, is_answered, long_at, signed_word_at, word_at, word_count}
use Rattle.rdm_describe.specs.Texts.{text_of}

-- ---- the root and the sub-devices

-- what the root (0) or a sub-device answers to DEVICE_INFO. Section 10.5.1.
abbrev pub info : List Answer → ℕ → List ℕ
info answers sub = data_of answers sub 0x0060 0

-- how many personalities it has; a file has one at least, and describes 8
abbrev pub personality_count : List Answer → ℕ → ℕ
personality_count answers sub = min 8 (max 1 (slice_index (info answers sub) 13))

-- A personality that isn't described, if it is the one that the device has now, or its only one.
abbrev pub is_present : List ℕ → ℕ → Bool
is_present info number = nat_le (slice_index info 13) 1 || (slice_index info 12 == number)

abbrev pub footprint_undescribed : List ℕ → ℕ → ℕ
footprint_undescribed info number = if is_present info number then word_at info 10 else 0

-- how many slots a personality uses: as DMX_PERSONALITY_DESCRIPTION says, and else as DEVICE_INFO. Section 10.6.2.
abbrev pub footprint_of : List Answer → ℕ → ℕ → ℕ
footprint_of answers sub number = min 512 (if is_answered answers sub 0x00E1 number then word_at (data_of answers sub 0x00E1 number) 1
    else footprint_undescribed (info answers sub) number)

abbrev pub personality_of : List Answer → ℕ → ℕ → Personality
personality_of answers sub number = record {
  footprint = footprint_of answers sub number;
  name = text_of (drop 3 (data_of answers sub 0x00E1 number));
}

abbrev pub personalities_of : List Answer → ℕ → List Personality
personalities_of answers sub = each (λ number. personality_of answers sub number ∷ []) 1 (personality_count answers sub)

-- a start address of 1 to 512; a device that has none has 0xFFFF, and starts at 1 in a file. Section 10.6.3.
abbrev pub start_of : ℕ → ℕ
start_of address = if nat_le 1 address && nat_le address 512 then address else 1

-- what the root or a sub-device tells of itself. Sections 10.5.1, 10.5.3 to 10.5.5 and 10.5.9.
abbrev pub unit_of : List Answer → ℕ → DeviceUnit
unit_of answers sub = record {
  model = word_at (info answers sub) 2;
  category = word_at (info answers sub) 4;
  software = long_at (info answers sub) 6;
  model_text = text_of (data_of answers sub 0x0080 0);
  maker_text = text_of (data_of answers sub 0x0081 0);
  label = text_of (data_of answers sub 0x0082 0);
  software_text = text_of (data_of answers sub 0x00C0 0);
  personalities = record { items = take 8 (personalities_of answers sub) };
  start = start_of (word_at (info answers sub) 14);
}

-- how many sub-devices there are
abbrev pub sub_count : List Answer → ℕ
sub_count answers = min 512 (word_at (info answers 0) 16)

-- What each sub-device is, is what the first one is; where there is none, what the root is.
abbrev pub sub_of : List Answer → ℕ
sub_of answers = if sub_count answers == 0 then 0 else 1

-- ---- slots: sections 10.6.4 to 10.6.6

abbrev pub slot_info : List Answer → List ℕ
slot_info answers = data_of answers 0 0x0120 0

-- how many of the first n entries of SLOT_INFO, of five slots each, are of slots 0, 1, 2 and so on
unfoldable pub in_order : List ℕ → ℕ → ℕ
in_order slots zero = 0
in_order slots (suc n) = if (in_order slots n == n) && (word_at slots (5 * n) == n) then suc n else in_order slots n

-- those are described, 46 at most
abbrev pub slot_count : List Answer → ℕ
slot_count answers = in_order (slot_info answers) (min 46 (length (slot_info answers) / 5))

-- the value of a slot in the first n entries of DEFAULT_SLOT_VALUE, of three slots each; 0, if none of them is of it
unfoldable pub default_at : List ℕ → ℕ → ℕ → ℕ
default_at slots slot zero = 0
default_at slots slot (suc n) = if word_at slots (3 * n) == slot then slice_index slots (3 * n + 2) else default_at slots slot n

abbrev pub default_of : List ℕ → ℕ → ℕ
default_of slots slot = default_at slots slot (min 512 (length slots / 3))

abbrev pub slot_of : List Answer → ℕ → Slot
slot_of answers number = record {
  kind = slice_index (slot_info answers) (5 * number + 2);
  label = word_at (slot_info answers) (5 * number + 3);
  value = default_of (data_of answers 0 0x0122 0) number;
  name = text_of (drop 2 (data_of answers 0 0x0121 number));
}

abbrev pub slots_of : List Answer → List Slot
slots_of answers = each (λ number. slot_of answers number ∷ []) 0 (slot_count answers)

-- how many slots the personality with the most uses
abbrev pub most_slots : List Personality → ℕ
most_slots [] = 0
most_slots (m ∷ ms) = max m.footprint (most_slots ms)

-- the slots that are used and not described
abbrev pub more_slots_of : List Answer → ℕ
more_slots_of answers = most_slots (personalities_of answers 0) - slot_count answers

-- ---- sensors: section 10.7

-- they are described only where SENSOR_DEFINITION is; a file has 8 at most
abbrev pub sensor_count : List Answer → ℕ
sensor_count answers = if has answers 0 0x0200 then min 8 (slice_index (info answers 0) 18) else 0

-- SENSOR_VALUE was answered, and not by ACK_TIMER first
abbrev pub is_at_once : List Answer → ℕ → Bool
is_at_once answers number = is_answered answers 0 0x0201 number && is_none (estimate_of answers 0 0x0201 number)

abbrev pub sensor_of : List Answer → ℕ → SensorDef
sensor_of answers number = let slots = data_of answers 0 0x0200 number in record {
  kind = slice_index slots 1;
  unit = slice_index slots 2;
  prefix = slice_index slots 3;
  low = signed_word_at slots 4;
  high = signed_word_at slots 6;
  normal_low = signed_word_at slots 8;
  normal_high = signed_word_at slots 10;
  support = slice_index slots 12;
  at_once = is_at_once answers number;
  name = text_of (drop 13 slots);
}

abbrev pub sensors_of : List Answer → List SensorDef
sensors_of answers = each (λ number. sensor_of answers number ∷ []) 0 (sensor_count answers)

-- what a sensor measures now
abbrev pub present_of : List Answer → ℕ → Option ℤ
present_of answers number = if is_answered answers 0 0x0201 number then Some (signed_word_at (data_of answers 0 0x0201 number) 1) else None

abbrev pub presents_of : List Answer → List (Option ℤ)
presents_of answers = each (λ number. present_of answers number ∷ []) 0 (sensor_count answers)

-- how long a sensor said that SENSOR_VALUE takes, if it needs time
abbrev pub estimate_at : List Answer → ℕ → List ℕ
estimate_at answers number = option_to_list (estimate_of answers 0 0x0201 number)

-- how long the sensors said that SENSOR_VALUE takes
abbrev pub estimates_told : List Answer → List ℕ
estimates_told answers = each (estimate_at answers) 0 (sensor_count answers)

abbrev pub first_or : ℕ → List ℕ → ℕ
first_or otherwise [] = otherwise
first_or otherwise (n ∷ ns) = n

-- how long it takes: as the first of them says that needs time, or half a second
abbrev pub sensor_estimate : List Answer → ℕ
sensor_estimate answers = first_or 5 (estimates_told answers)

-- ---- self tests, status IDs and languages: sections 10.11, 10.3.3 and 10.5.7

-- the self test with this number, if SELF_TEST_DESCRIPTION was answered
abbrev pub test_at : List Answer → ℕ → List SelfTest
test_at answers number = if is_answered answers 0 0x1021 number
    then record { number = number; name = text_of (drop 1 (data_of answers 0 0x1021 number)) } ∷ [] else []

-- those of the numbers 1 to 32
abbrev pub tests_of : List Answer → List SelfTest
tests_of answers = each (test_at answers) 1 32

abbrev pub status_at : List Answer → ℕ → List StatusText
status_at answers id = if is_answered answers 0 0x0031 id then record { id = id; text = text_of (data_of answers 0 0x0031 id) } ∷ [] else []

-- those of the maker's own from 0x8000 to 0x801F
abbrev pub statuses_of : List Answer → List StatusText
statuses_of answers = each (status_at answers) 0x8000 32

abbrev pub is_letter : ℕ → Bool
is_letter c = nat_le 0x61 c && nat_le c 0x7A

-- the language at a place, if its code is two small letters
abbrev pub language_at : List ℕ → ℕ → List ℕ
language_at slots place =
    if is_letter (slice_index slots (2 * place)) && is_letter (slice_index slots (2 * place + 1)) then word_at slots (2 * place) ∷ [] else []

abbrev pub coded_languages : List ℕ → List ℕ
coded_languages slots = each (language_at slots) 0 (word_count slots)

-- English, where there is none
abbrev pub some_language : List ℕ → List ℕ
some_language [] = 0x656E ∷ []
some_language (l ∷ ls) = l ∷ ls

abbrev pub languages_of : List Answer → List ℕ
languages_of answers = some_language (coded_languages (data_of answers 0 0x00A0 0))

-- ---- what the fixture lacks

-- whether it has a parameter that needs this one
abbrev pub is_needed : List Answer → ℕ → Bool
is_needed answers pid = list_any (λ pair. (pair.0 == pid) && has answers 0 pair.1) needs

-- a parameter that it doesn't list is left out, unless one that it lists needs it
abbrev pub is_left_out : List Answer → ℕ → Bool
is_left_out answers pid = not (has answers 0 pid) && not (is_needed answers pid)

abbrev pub if_left_out : List Answer → ℕ → List ℕ
if_left_out answers pid = if is_left_out answers pid then pid ∷ [] else []

abbrev pub without_of : List Answer → List ℕ
without_of answers = flat_map (if_left_out answers) optional_pids
