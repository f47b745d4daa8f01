-- What the words of parameter data name, by parameter: the fields of E1.20 section 10, in the order in which they are said. Those of a wrong
-- length, and those that have no fields, are named by all of their digits.
use Rattle.std.specs.Prelude.{ℕ, ◌==◌, List, [], ◌∷◌, length, Option, Some, None, if◌then◌else◌}
use Rattle.rdm_params.specs.Table.Kinds.{kind_with}
use Rattle.rdm_table.specs.declared.kind.Kind.{Kind}
use Rattle.rdm_table.specs.declared.kind.Kind.TheVariants.{StatusMessages, StatusIdDescription, ClearStatusId, SupportedParameters, DeviceInfo, DeviceModelDescription, ManufacturerLabel, DeviceLabel, FactoryDefaults, LanguageCapabilities, Language, SoftwareVersionLabel, BootSoftwareVersionId, BootSoftwareVersionLabel, DmxPersonality, DmxPersonalityDescription, DmxStartAddress, SlotInfo, SlotDescription, DefaultSlotValue, SensorDefinition, SensorValue, RecordSensors, DeviceHours, LampHours, LampStrikes, DevicePowerCycles, DisplayLevel, PerformSelfTest, SelfTestDescription, PresetPlayback}
use Rattle.rdm_words.specs.FieldFacts.{slots_at, as_number, as_digits, as_number_but, as_text, as_data, as_signed, as_measured, as_uid, as_parameter, as_place, as_failure, as_range, as_slot_use, all_of, exactly, at_least, each_entry}
use Rattle.rdm_words.specs.Unread.{is_put_off, is_response}
use Rattle.rdm_frame.specs.declared.frame.Frame.{Frame}

-- ---- records of fields

-- one slot that stands for something else
abbrev pub code_facts : List ℕ → List (List ℕ)
code_facts d = as_data d

-- a text of a device
abbrev pub text_facts : List ℕ → List (List ℕ)
text_facts d = at_least 0 d (as_text (slots_at 0 255 d) ∷ [])

-- an 8-bit number, a 16-bit one and a 32-bit one
abbrev pub byte_facts : List ℕ → List (List ℕ)
byte_facts d = exactly 1 d (as_number (slots_at 0 1 d) ∷ [])

abbrev pub word_facts : List ℕ → List (List ℕ)
word_facts d = exactly 2 d (as_number (slots_at 0 2 d) ∷ [])

abbrev pub long_facts : List ℕ → List (List ℕ)
long_facts d = exactly 4 d (as_number (slots_at 0 4 d) ∷ [])

-- DEVICE_INFO. Section 10.5.1: the two parts of the protocol version, the model ID, the product category, the software version ID, the
-- footprint, the personality and how many there are, the start address, which 0xFFFF is none, and how many sub-devices and sensors there are.
abbrev pub device_info : List ℕ → List (List ℕ)
device_info d =
    exactly 19 d (
    as_number (slots_at 0 1 d) ∷ as_number (slots_at 1 1 d) ∷ as_digits (slots_at 2 2 d) ∷ as_digits (slots_at 4 2 d) ∷ as_digits (slots_at 6 4 d) ∷
    as_number (slots_at 10 2 d) ∷ as_number (slots_at 12 1 d) ∷ as_number (slots_at 13 1 d) ∷ as_number_but (0xFFFF ∷ []) (slots_at 14 2 d) ∷
    as_number (slots_at 16 2 d) ∷ as_number (slots_at 18 1 d) ∷ [])

-- DMX_PERSONALITY. Section 10.6.1: the personality, and how many there are.
abbrev pub personality : List ℕ → List (List ℕ)
personality d = exactly 2 d (as_number (slots_at 0 1 d) ∷ as_number (slots_at 1 1 d) ∷ [])

-- DMX_PERSONALITY_DESCRIPTION. Section 10.6.2: the personality, its text and its footprint.
abbrev pub personality_text : List ℕ → List (List ℕ)
personality_text d = at_least 3 d (as_number (slots_at 0 1 d) ∷ as_text (slots_at 3 255 d) ∷ as_number (slots_at 1 2 d) ∷ [])

-- DMX_START_ADDRESS. Section 10.6.3: 0xFFFF is none.
abbrev pub start_address : List ℕ → List (List ℕ)
start_address d = exactly 2 d (as_number_but (0xFFFF ∷ []) (slots_at 0 2 d) ∷ [])

-- SLOT_DESCRIPTION. Section 10.6.5: the slot and its text.
abbrev pub slot_text : List ℕ → List (List ℕ)
slot_text d = at_least 2 d (as_number (slots_at 0 2 d) ∷ as_text (slots_at 2 255 d) ∷ [])

-- the number of a sensor, of which 0xFF is all. Section 10.7.
abbrev pub sensor : List ℕ → List (List ℕ)
sensor d = exactly 1 d (as_number_but (0xFF ∷ []) (slots_at 0 1 d) ∷ [])

-- SENSOR_DEFINITION. Section 10.7.1: the sensor, its text, its type, its range, its normal range, its unit with the prefix, and what it keeps.
abbrev pub sensor_definition : List ℕ → List (List ℕ)
sensor_definition d =
    at_least 13 d (
    as_number (slots_at 0 1 d) ∷ as_text (slots_at 13 255 d) ∷ as_digits (slots_at 1 1 d) ∷ as_range (slots_at 4 4 d) ∷ as_range (slots_at 8 4 d) ∷
    as_digits (slots_at 2 2 d) ∷ as_digits (slots_at 12 1 d) ∷ [])

-- SENSOR_VALUE. Section 10.7.2: the sensor, what it measures, the lowest and the highest value, and the recorded one. A sensor may leave out
-- the recorded one, or the lowest and the highest.
abbrev pub sensor_value : List ℕ → List (List ℕ)
sensor_value d =
    if length d == 5 then all_of (as_number_but (0xFF ∷ []) (slots_at 0 1 d) ∷ as_measured (slots_at 0 3 d) ∷ as_signed (slots_at 3 2 d) ∷ []) else
    if length d == 7 then
    all_of (as_number_but (0xFF ∷ []) (slots_at 0 1 d) ∷ as_measured (slots_at 0 3 d) ∷ as_signed (slots_at 3 2 d) ∷ as_signed (slots_at 5 2 d) ∷ []) else
    exactly 9 d (
    as_number_but (0xFF ∷ []) (slots_at 0 1 d) ∷ as_measured (slots_at 0 3 d) ∷ as_signed (slots_at 3 2 d) ∷ as_signed (slots_at 5 2 d) ∷ as_signed (slots_at 7 2 d) ∷ [])

-- DISC_UNIQUE_BRANCH. Section 7.5: the first and the last UID that is searched.
abbrev pub branch : List ℕ → List (List ℕ)
branch d = exactly 12 d (as_uid (slots_at 0 6 d) ∷ as_uid (slots_at 6 6 d) ∷ [])

-- a self test, of which 0x00 is none and 0xFF all. Table A-10.
abbrev pub self_test : List ℕ → List (List ℕ)
self_test d = exactly 1 d (as_number_but (0x00 ∷ 0xFF ∷ []) (slots_at 0 1 d) ∷ [])

-- SELF_TEST_DESCRIPTION. Section 10.11: the self test and its text.
abbrev pub self_test_text : List ℕ → List (List ℕ)
self_test_text d = at_least 1 d (as_number (slots_at 0 1 d) ∷ as_text (slots_at 1 255 d) ∷ [])

-- PRESET_PLAYBACK. Section 10.11: the scene, of which 0x0000 is none and 0xFFFF all (table A-7), and the level.
abbrev pub preset : List ℕ → List (List ℕ)
preset d = exactly 3 d (as_number_but (0x0000 ∷ 0xFFFF ∷ []) (slots_at 0 2 d) ∷ as_number (slots_at 2 1 d) ∷ [])

-- A status ID. Section 10.3.3.
abbrev pub status_id : List ℕ → List (List ℕ)
status_id d = exactly 2 d (as_digits (slots_at 0 2 d) ∷ [])

-- DISC_MUTE and DISC_UN_MUTE in a response. Section 7.6: the control field, and the binding UID of a device that has several ports.
abbrev pub muted : List ℕ → List (List ℕ)
muted d =
    if length d == 8 then all_of (as_digits (slots_at 0 2 d) ∷ as_uid (slots_at 2 6 d) ∷ []) else
    exactly 2 d (as_digits (slots_at 0 2 d) ∷ [])

-- ---- lists, by their entries

-- SUPPORTED_PARAMETERS. Section 10.4.1: a parameter.
abbrev pub supported : List ℕ → List (List ℕ)
supported d = exactly 2 d (as_parameter (slots_at 0 2 d) ∷ [])

-- STATUS_MESSAGES. Section 10.3.2: what failed, with two values, and where.
abbrev pub status_message : List ℕ → List (List ℕ)
status_message d = exactly 9 d (as_failure (slots_at 2 7 d) ∷ as_place (slots_at 0 2 d) ∷ [])

-- SLOT_INFO. Section 10.6.4: a slot, and what it is for.
abbrev pub slot_info : List ℕ → List (List ℕ)
slot_info d = exactly 5 d (as_number (slots_at 0 2 d) ∷ as_slot_use (slots_at 2 3 d) ∷ [])

-- DEFAULT_SLOT_VALUE. Section 10.6.6: a slot, and its value.
abbrev pub slot_default : List ℕ → List (List ℕ)
slot_default d = exactly 3 d (as_number (slots_at 0 2 d) ∷ as_number (slots_at 2 1 d) ∷ [])

-- LANGUAGE_CAPABILITIES and LANGUAGE. Sections 10.5.7 and 10.5.8: two letters each.
abbrev pub languages : List ℕ → List (List ℕ)
languages d = each_entry 2 (λ letters. as_text letters) d

-- ---- by parameter

-- a value that a GET reads as a SET writes it
abbrev pub value_facts : Kind → List ℕ → List (List ℕ)
value_facts StatusIdDescription d = text_facts d
value_facts DeviceModelDescription d = text_facts d
value_facts ManufacturerLabel d = text_facts d
value_facts DeviceLabel d = text_facts d
value_facts SoftwareVersionLabel d = text_facts d
value_facts BootSoftwareVersionLabel d = text_facts d
value_facts BootSoftwareVersionId d = exactly 4 d (as_digits (slots_at 0 4 d) ∷ [])
value_facts LanguageCapabilities d = languages d
value_facts Language d = languages d
value_facts DmxStartAddress d = start_address d
value_facts DeviceHours d = long_facts d
value_facts LampHours d = long_facts d
value_facts LampStrikes d = long_facts d
value_facts DevicePowerCycles d = long_facts d
value_facts DisplayLevel d = byte_facts d
value_facts PresetPlayback d = preset d
value_facts kind d = as_data d

-- what a GET asks with
abbrev pub asked_facts : Kind → List ℕ → List (List ℕ)
asked_facts StatusIdDescription d = status_id d
asked_facts DmxPersonalityDescription d = byte_facts d
asked_facts SlotDescription d = word_facts d
asked_facts SensorDefinition d = sensor d
asked_facts SensorValue d = sensor d
asked_facts SelfTestDescription d = self_test d
asked_facts kind d = as_data d

-- what a GET is told
abbrev pub told_facts : Kind → List ℕ → List (List ℕ)
told_facts DmxPersonality d = personality d
told_facts StatusMessages d = each_entry 9 status_message d
told_facts SupportedParameters d = each_entry 2 supported d
told_facts DeviceInfo d = device_info d
told_facts DmxPersonalityDescription d = personality_text d
told_facts SlotInfo d = each_entry 5 slot_info d
told_facts SlotDescription d = slot_text d
told_facts DefaultSlotValue d = each_entry 3 slot_default d
told_facts SensorDefinition d = sensor_definition d
told_facts SensorValue d = sensor_value d
told_facts SelfTestDescription d = self_test_text d
told_facts FactoryDefaults d = code_facts d
told_facts PerformSelfTest d = code_facts d
told_facts kind d = value_facts kind d

-- what a SET hands in
abbrev pub set_facts : Kind → List ℕ → List (List ℕ)
set_facts FactoryDefaults d = as_data d
set_facts ClearStatusId d = as_data d
set_facts DmxPersonality d = byte_facts d
set_facts SensorValue d = sensor d
set_facts RecordSensors d = sensor d
set_facts PerformSelfTest d = self_test d
set_facts kind d = value_facts kind d

-- what a SET is told
abbrev pub done_facts : Kind → List ℕ → List (List ℕ)
done_facts SensorValue d = sensor_value d
done_facts kind d = as_data d

-- ---- by command class and parameter

abbrev pub kind_facts : ℕ → Kind → List ℕ → List (List ℕ)
kind_facts class kind d =
    if class == 0x20 then asked_facts kind d else
    if class == 0x21 then told_facts kind d else
    if class == 0x30 then set_facts kind d else
    if class == 0x31 then done_facts kind d else as_data d

-- The parameters of discovery. Section 7.
abbrev pub discovery_facts : ℕ → ℕ → List ℕ → List (List ℕ)
discovery_facts class pid d =
    if class == 0x10 then (if pid == 0x0001 then branch d else as_data d) else
    if class == 0x11 then (if pid == 0x0002 then muted d else if pid == 0x0003 then muted d else as_data d) else
    as_data d

abbrev pub facts_of_kind : ℕ → ℕ → Option Kind → List ℕ → List (List ℕ)
facts_of_kind class pid None d = discovery_facts class pid d
facts_of_kind class pid (Some kind) d = kind_facts class kind d

-- data of a parameter in frames of this class
abbrev pub data_facts : ℕ → ℕ → List ℕ → List (List ℕ)
data_facts class pid d = facts_of_kind class pid (kind_with pid) d

-- The data of an ACK_TIMER or a NACK: two slots are the estimate or the reason, which stand in the header.
abbrev pub put_off_facts : List ℕ → List (List ℕ)
put_off_facts d = if length d == 2 then [] else as_data d

-- the data of a frame
abbrev pub body_facts : Frame → List (List ℕ)
body_facts f =
    if is_response f.class then (if is_put_off f.port then put_off_facts f.body else data_facts f.class f.pid f.body) else
    data_facts f.class f.pid f.body
