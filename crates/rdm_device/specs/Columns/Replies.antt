-- Replies that aren't what is stored at a key.
use Rattle.std.specs.Prelude.{ℕ, Bool, suc, ◌-◌, ◌==◌, ◌&&◌, ◌||◌, not, List, [], ◌∷◌, ◌++◌, length, take, slice_get, slice_index, replicate, find, filter, flat_map, map, bytes_eq, if◌then◌else◌}
use Rattle.std.specs.Int.{w16, from_be_bytes}
use Rattle.std.specs.List.{list_all}
use Rattle.std.specs.Option.{option_map_or}
use Rattle.rdm_profile.specs.declared.profile.Slot.{Slot}
use Rattle.rdm_profile.specs.declared.profile.own.ParameterDef.{ParameterDef}
use Rattle.rdm_profile.specs.declared.value.Value.{Value}
use Rattle.rdm_profile.specs.declared.value.Value.TheVariants.{Named, SlotName, Mode, Sensor, Info}
use Rattle.rdm_added.specs.Map.{lookup}
use Rattle.rdm_device.specs.Device.Measuring.{shown_slots}
use Rattle.rdm_added.specs.Parameters.{root_at_start}
use Rattle.rdm_added.specs.Spot.{Spot, personality, personalities, footprint, slots}
use Rattle.rdm_profile.specs.Values.{word_slots, bytes_of, byte_or_0, word_or_0}

-- the meaning of a status ID. Section 10.3.3.
abbrev pub status_text : Spot → Value → List ℕ
status_text spot v = option_map_or (λ t. t.text) (find (λ t. t.id == word_or_0 v) spot.profile.status_texts.items) []

-- the DMX512 start address, or FFFF if the device uses no slots. Section 10.6.3.
abbrev pub start_address : Spot → List ℕ
start_address spot = if footprint spot == 0 then 0xFF ∷ 0xFF ∷ [] else lookup spot.entries 0x00F0 0

-- what a device is: the protocol version is 1.0, and only the root has sensors
abbrev pub info : Spot → Value
info spot =
    Info 0x0100 spot.unit.model spot.unit.category spot.unit.software (footprint spot) (personality spot)
    (length (personalities spot)) (from_be_bytes w16 (start_address spot)) spot.profile.subs
    (if spot.is_root then length spot.profile.sensors.items else 0)

-- the fields of DEVICE_INFO. Section 10.5.1.
abbrev pub device_info : Spot → List ℕ
device_info spot = bytes_of (info spot)

-- the parameters that FACTORY_DEFAULTS sets back. Section 10.5.6.
abbrev pub factory_pids : List ℕ
factory_pids = 0x0082 ∷ 0x00B0 ∷ 0x00E0 ∷ 0x00F0 ∷ 0x0404 ∷ 0x0500 ∷ 0x0501 ∷ 0x0600 ∷ 0x0601 ∷ 0x0602 ∷ []

-- those of the maker's own that it sets back
abbrev pub reset_pids : List ParameterDef → List ℕ
reset_pids ds = map (λ d. d.pid) (filter (λ d. d.resets) ds)

-- whether a parameter of the maker's own has the value that it starts with, or isn't set back
abbrev pub is_at_start : Spot → ParameterDef → Bool
is_at_start spot d = not d.resets || bytes_eq (lookup spot.added d.pid 0) d.start

-- 1 if each that is set back has the value that it starts with, else 0
abbrev pub at_factory_defaults : Spot → List ℕ
at_factory_defaults spot =
    if list_all (λ pid. bytes_eq (lookup spot.entries pid 0) (lookup (root_at_start spot.profile) pid 0)) factory_pids
    && list_all (is_at_start spot) spot.profile.particulars.own
    then 1 ∷ [] else 0 ∷ []

-- the codes of the languages. Section 10.5.7.
abbrev pub languages : Spot → List ℕ
languages spot = flat_map word_slots spot.profile.languages.items

-- the current personality, and how many there are. Section 10.6.1.
abbrev pub personality_of_all : Spot → List ℕ
personality_of_all spot = personality spot ∷ length (personalities spot) ∷ []

-- what a personality uses and is called. Section 10.6.2.
abbrev pub personality_described : Spot → Value → List ℕ
personality_described spot v =
    option_map_or (λ m. bytes_of (Mode (byte_or_0 v) m.footprint m.name)) (slice_get (personalities spot) (byte_or_0 v - 1)) []

-- the slots that the current personality uses
abbrev pub used_slots : Spot → List Slot
used_slots spot = take (footprint spot) (slots spot)

-- of each slot from offset n on: the offset, the type and the label ID. Section 10.6.4.
abbrev pub slot_infos : ℕ → List Slot → List ℕ
slot_infos n [] = []
slot_infos n (s ∷ ss) = word_slots n ++ s.kind ∷ word_slots s.label ++ slot_infos (suc n) ss

-- of each slot from offset n on: the offset and the value when none is received. Section 10.6.6.
abbrev pub slot_defaults : ℕ → List Slot → List ℕ
slot_defaults n [] = []
slot_defaults n (s ∷ ss) = word_slots n ++ s.value ∷ slot_defaults (suc n) ss

-- what a slot is called. Section 10.6.5.
abbrev pub slot_described : Spot → Value → List ℕ
slot_described spot v = option_map_or (λ s. bytes_of (SlotName (word_or_0 v) s.name)) (slice_get (slots spot) (word_or_0 v)) []

-- what a sensor measures. Section 10.7.1.
abbrev pub sensor_described : Spot → Value → List ℕ
sensor_described spot v = option_map_or (λ d. bytes_of (Sensor (byte_or_0 v) d)) (slice_get spot.profile.sensors.items (byte_or_0 v)) []

-- what a sensor measured, of the values that it supports, or FF and eight 00 for all sensors. Section 10.7.2.
abbrev pub sensor_measured : Spot → Value → List ℕ
sensor_measured spot v =
    if byte_or_0 v == 0xFF then 0xFF ∷ replicate 8 0
    else byte_or_0 v ∷ shown_slots (slice_get spot.profile.sensors.items (byte_or_0 v)) (lookup spot.entries 0x0201 (byte_or_0 v))

-- 1 if the self test that was last switched on isn't off, else 0. Section 10.11.
abbrev pub self_test_runs : Spot → List ℕ
self_test_runs spot = if slice_index (lookup spot.entries 0x1020 0) 0 == 0 then 0 ∷ [] else 1 ∷ []

-- what a self test is called. Section 10.11.
abbrev pub self_test_described : Spot → Value → List ℕ
self_test_described spot v =
    option_map_or (λ t. bytes_of (Named (byte_or_0 v) t.name)) (find (λ t. t.number == byte_or_0 v) spot.profile.tests.items) []
