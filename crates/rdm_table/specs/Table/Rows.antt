-- The table of parameters, one line a row. E1.20 section 10 and table A-3.
use Rattle.std.specs.Prelude.{ℕ, Bool, true, false, ◌==◌, ◌&&◌, ◌||◌, not, nat_le, List, [], ◌∷◌, ◌++◌, map, Option, Some, None, find, filter, flat_map, if◌then◌else◌}
use Rattle.std.specs.List.{list_any}
use Rattle.rdm_table.specs.declared.kind.Verb.{Verb}
use Rattle.rdm_table.specs.declared.kind.Verb.TheVariants.{Get, Set}
use Rattle.rdm_table.specs.declared.slow.Slow.{Slow}
use Rattle.rdm_table.specs.declared.slow.Slow.TheVariants.{Lamp, Power, SelfTest, Sensor}
use Rattle.rdm_table.specs.declared.way.Way.{Way}
use Rattle.rdm_table.specs.declared.way.Way.TheVariants.{AtOnce, ByJob, FromQueue, FromStatus, Clears}
use Rattle.rdm_profile.specs.declared.profile.own.ParameterDef.{ParameterDef}
use Rattle.rdm_profile.specs.declared.profile.own.Shape.{Shape}
use Rattle.rdm_profile.specs.declared.profile.own.Shape.TheVariants as shapes
use Rattle.rdm_profile.specs.declared.profile.Profile.{Profile}
use Rattle.rdm_profile.specs.declared.value.Value.{Value}
use Rattle.rdm_added.specs.Scenes.{a_scene, scene_shown}
use Rattle.rdm_added.specs.Added.{added_value, choice_shown, a_name, name_shown, set_form, set_range, own_stored, added_set_back, has_makers_pid, a_makers_pid, described}
use Rattle.rdm_added.specs.Spot.{Change, Range, Spot}
use Rattle.rdm_device.specs.Columns.Changes.{unchanged, stored_at, set_back, sensors_reset, sensors_recorded}
use Rattle.rdm_profile.specs.Forms.{Form, nothing, byte, word, long, preset, label}
use Rattle.rdm_profile.specs.LeftOut.{lacks}
use Rattle.rdm_added.specs.Map.{lookup}
use Rattle.rdm_profile.specs.OwnParameters.{has_get, has_set}
use Rattle.rdm_device.specs.Columns.Ranges.{any, below, a_message_type, a_threshold, a_status, a_language, a_personality, a_start, a_slot, a_sensor, sensors, recording_sensors, lamp_states_told, lamp_modes_told, a_power_state, a_test, a_self_test, a_preset}
use Rattle.rdm_device.specs.Columns.Replies.{status_text, device_info, at_factory_defaults, languages, personality_of_all, personality_described, start_address, used_slots, slot_infos, slot_described, slot_defaults, sensor_described, sensor_measured, self_test_runs, self_test_described}
use Rattle.rdm_profile.specs.Values.{word_slots, long_slots}

-- A command of a row: the form of its data, the range of it, which values a GET may tell beside these, the way in which it is answered,
-- what it makes of the entries of a device and of those of the parameters that the maker adds, and the data of its reply, which is of the
-- device afterwards. If a job carries it out, the change and the reply are those at the end of the job. And whether it keeps the data that
-- it hands in, as the value of its parameter.
pub record Command : Type 0 where
  pub form : Form
  pub range : Range
  pub told : Range
  pub way : Way
  pub change : Change
  pub added_change : Change
  pub reply : Spot → Value → List ℕ
  pub keeps : Bool

-- A row: the PID, whether the parameter is at the root alone, and its two commands.
pub record Row : Type 0 where
  pub pid : ℕ
  pub root_only : Bool
  pub get : Option Command
  pub set : Option Command

-- What a row has for a GET or a SET, by its PID.
abbrev pub Cell : Type 0
Cell = ℕ → Option Command

-- the row of a parameter: its PID, where it is, its GET and its SET
abbrev pub row : ℕ → Bool → Cell → Cell → Row
row pid root_only get set = record { pid = pid; root_only = root_only; get = get pid; set = set pid }

-- at the root and at every sub-device
abbrev pub both : Bool
both = false

-- at the root alone
abbrev pub root : Bool
root = true

-- no value beside those that a SET may ask for
abbrev pub no_more : Range
no_more spot v = false

-- no such command
abbrev pub none : Cell
none pid = None

-- a GET that is asked with data
abbrev pub asks : Form → (Form → Range) → (Spot → Value → List ℕ) → Cell
asks form range reply pid = Some (record { form = form; range = range form; told = no_more; way = AtOnce; change = unchanged; added_change = unchanged; reply = reply; keeps = false })

-- a GET without data
abbrev pub reads : (Spot → List ℕ) → Cell
reads shown = asks nothing any (λ spot v. shown spot)

-- a GET that shows what is kept at the key of its PID
abbrev pub stored : Cell
stored pid = reads (λ spot. lookup spot.entries pid 0) pid

-- a SET with a change, one of the parameters that the maker adds, and a reply
abbrev pub sets : Form → (Form → Range) → Change → Change → (Spot → Value → List ℕ) → Cell
sets form range change added_change reply pid =
    Some (record { form = form; range = range form; told = no_more; way = AtOnce; change = change; added_change = added_change; reply = reply; keeps = false })

-- a SET that keeps its data at the key of its PID, beside whose range a GET may tell these values: no SET asks for them, but the firmware
-- places them
abbrev pub takes_telling : Form → (Form → Range) → (Form → Range) → Cell
takes_telling form range told pid =
    Some (record { form = form; range = range form; told = told form; way = AtOnce; change = stored_at pid form; added_change = unchanged; reply = λ spot v. []; keeps = true })

-- the same, where a GET tells no others
abbrev pub takes : Form → (Form → Range) → Cell
takes form range = takes_telling form range (λ f. no_more)

-- a SET by a job of this kind, which keeps its data at the key of its PID, beside whose range a GET may tell these values
abbrev pub starts_telling : Slow → (Form → Range) → (Form → Range) → Cell
starts_telling slow range told pid =
    Some (record { form = byte; range = range byte; told = told byte; way = ByJob slow; change = stored_at pid byte; added_change = unchanged; reply = λ spot v. []; keeps = true })

-- the same, where a GET tells no others
abbrev pub starts : Slow → (Form → Range) → Cell
starts slow range = starts_telling slow range (λ f. no_more)

-- a GET by a job of this kind, which shows what it has measured
abbrev pub measures : Slow → (Form → Range) → (Spot → Value → List ℕ) → Cell
measures slow range reply pid =
    Some (record { form = byte; range = range byte; told = no_more; way = ByJob slow; change = unchanged; added_change = unchanged; reply = reply; keeps = false })

-- a GET that is answered from what waits for the controller
abbrev pub fetches : Way → (Form → Range) → Cell
fetches way range pid = Some (record { form = byte; range = range byte; told = no_more; way = way; change = unchanged; added_change = unchanged; reply = λ spot v. []; keeps = false })

-- a SET without data that clears the list of status entries
abbrev pub clears : Cell
clears pid = Some (record { form = nothing; range = any nothing; told = no_more; way = Clears; change = unchanged; added_change = unchanged; reply = λ spot v. []; keeps = false })

-- a row that shows and takes what is kept at the key of its PID
abbrev pub kept : ℕ → Bool → Form → (Form → Range) → Row
kept pid root_only form range = row pid root_only stored (takes form range)

-- Status: section 10.3
abbrev pub status : List Row
status =
    row 0x0020 root (fetches FromQueue a_message_type) none  -- QUEUED_MESSAGE
    ∷ row 0x0030 root (fetches FromStatus (below 5)) none  -- STATUS_MESSAGES
    ∷ row 0x0031 root (asks word a_status status_text) none  -- STATUS_ID_DESCRIPTION
    ∷ row 0x0032 root none clears  -- CLEAR_STATUS_ID
    ∷ kept 0x0033 both byte a_threshold  -- SUB_DEVICE_STATUS_REPORT_THRESHOLD
    ∷ []

-- Product information: sections 10.5.1 to 10.5.6
abbrev pub information : List Row
information =
    row 0x0060 both (reads device_info) none  -- DEVICE_INFO
    ∷ row 0x0080 both (reads (λ spot. spot.unit.model_text)) none  -- DEVICE_MODEL_DESCRIPTION
    ∷ row 0x0081 both (reads (λ spot. spot.unit.maker_text)) none  -- MANUFACTURER_LABEL
    ∷ kept 0x0082 both label any  -- DEVICE_LABEL
    ∷ row 0x0090 root (reads at_factory_defaults) (sets nothing any set_back added_set_back (λ spot v. []))  -- FACTORY_DEFAULTS
    ∷ []

-- Language and software: sections 10.5.7 to 10.5.11
abbrev pub software : List Row
software =
    row 0x00A0 root (reads languages) none  -- LANGUAGE_CAPABILITIES
    ∷ kept 0x00B0 root word a_language  -- LANGUAGE
    ∷ row 0x00C0 both (reads (λ spot. spot.unit.software_text)) none  -- SOFTWARE_VERSION_LABEL
    ∷ row 0x00C1 root (reads (λ spot. long_slots spot.profile.boot)) none  -- BOOT_SOFTWARE_VERSION_ID
    ∷ row 0x00C2 root (reads (λ spot. spot.profile.boot_text)) none  -- BOOT_SOFTWARE_VERSION_LABEL
    ∷ []

-- DMX512 setup: section 10.6
abbrev pub dmx : List Row
dmx =
    row 0x00E0 both (reads personality_of_all) (takes byte a_personality)  -- DMX_PERSONALITY
    ∷ row 0x00E1 both (asks byte a_personality personality_described) none  -- DMX_PERSONALITY_DESCRIPTION
    ∷ row 0x00F0 both (reads start_address) (takes word a_start)  -- DMX_START_ADDRESS
    ∷ row 0x0120 root (reads (λ spot. slot_infos 0 (used_slots spot))) none  -- SLOT_INFO
    ∷ row 0x0121 root (asks word a_slot slot_described) none  -- SLOT_DESCRIPTION
    ∷ row 0x0122 root (reads (λ spot. slot_defaults 0 (used_slots spot))) none  -- DEFAULT_SLOT_VALUE
    ∷ []

-- Sensors: section 10.7
abbrev pub sensing : List Row
sensing =
    row 0x0200 root (asks byte a_sensor sensor_described) none  -- SENSOR_DEFINITION
    ∷ row 0x0201 root (measures Sensor a_sensor sensor_measured) (sets byte sensors sensors_reset unchanged sensor_measured)  -- SENSOR_VALUE
    ∷ row 0x0202 root none (sets byte recording_sensors sensors_recorded unchanged (λ spot v. []))  -- RECORD_SENSORS
    ∷ []

-- Power and lamp: section 10.8
abbrev pub usage : List Row
usage =
    kept 0x0400 root long any  -- DEVICE_HOURS
    ∷ kept 0x0401 both long any  -- LAMP_HOURS
    ∷ kept 0x0402 both long any  -- LAMP_STRIKES
    ∷ row 0x0403 both stored (starts_telling Lamp (below 4) lamp_states_told)  -- LAMP_STATE
    ∷ row 0x0404 both stored (takes_telling byte (below 4) lamp_modes_told)  -- LAMP_ON_MODE
    ∷ kept 0x0405 root long any  -- DEVICE_POWER_CYCLES
    ∷ []

-- Display and configuration: sections 10.9 and 10.10
abbrev pub display : List Row
display =
    kept 0x0500 root byte (below 3)  -- DISPLAY_INVERT
    ∷ kept 0x0501 root byte any  -- DISPLAY_LEVEL
    ∷ kept 0x0600 root byte (below 2)  -- PAN_INVERT
    ∷ kept 0x0601 root byte (below 2)  -- TILT_INVERT
    ∷ kept 0x0602 root byte (below 2)  -- PAN_TILT_SWAP
    ∷ []

-- Control: section 10.11
abbrev pub control : List Row
control =
    kept 0x1000 both byte (below 2)  -- IDENTIFY_DEVICE
    ∷ row 0x1010 both stored (starts Power a_power_state)  -- POWER_STATE
    ∷ row 0x1020 root (reads self_test_runs) (starts SelfTest a_self_test)  -- PERFORM_SELFTEST
    ∷ row 0x1021 root (asks byte a_test self_test_described) none  -- SELF_TEST_DESCRIPTION
    ∷ kept 0x1031 root preset a_preset  -- PRESET_PLAYBACK
    ∷ []

-- The PIDs that SUPPORTED_PARAMETERS leaves out, since a device must have them: itself, PARAMETER_DESCRIPTION, which one with parameters of
-- its maker's has, DEVICE_INFO, SOFTWARE_VERSION_LABEL, DMX_START_ADDRESS and IDENTIFY_DEVICE. Section 10.4.1 and table A-3.
abbrev pub is_required : ℕ → Bool
is_required pid = list_any (λ required. required == pid) (0x0050 ∷ 0x0051 ∷ 0x0060 ∷ 0x00C0 ∷ 0x00F0 ∷ 0x1000 ∷ [])

-- ---- what a profile adds to the table

-- a GET that shows what is kept of a parameter that the maker adds
abbrev pub shows_added : Cell
shows_added pid = reads (added_value pid) pid

-- the GET of a parameter that the maker adds, by the shape of its data: the number of a choice has the greatest behind it, names are
-- asked for by their numbers and so are scenes, and of all others the GET shows what is kept; a block keeps nothing
abbrev pub gets_added : Shape → ParameterDef → Cell
gets_added shapes.Choice d = reads (choice_shown d)
gets_added shapes.Lock d = reads (choice_shown d)
gets_added shapes.Names d = asks byte (a_name d) (name_shown d)
gets_added shapes.Rates d = asks byte (a_name d) (name_shown d)
gets_added shapes.Scenes d = asks word (a_scene d) (scene_shown d)
gets_added _ d = shows_added

-- a SET of a parameter that the maker adds, with what it makes of the entries of it
abbrev pub takes_added : Form → (Form → Range) → Change → Cell
takes_added form range added_change pid =
    Some (record { form = form; range = range form; told = no_more; way = AtOnce; change = unchanged; added_change = added_change; reply = λ spot v. []; keeps = true })

-- the row of a parameter that the maker adds
abbrev pub added_row : ParameterDef → Row
added_row d = record {
  pid = d.pid;
  root_only = root;
  get = if has_get d.rights then gets_added d.shape d d.pid else None;
  set = if has_set d.rights then takes_added (set_form d) (set_range d) (own_stored d) d.pid else None;
}

-- PARAMETER_DESCRIPTION: section 10.4.2
abbrev pub description_row : Row
description_row = row 0x0051 root (asks word a_makers_pid described) none

-- The rows that a profile adds to the table: one for each parameter that the maker adds, and PARAMETER_DESCRIPTION where
-- one of these has a PID that the standard leaves to makers.
unfoldable pub added_rows : Profile → List Row
added_rows p = (if list_any has_makers_pid p.particulars.own then description_row ∷ [] else []) ++ map added_row p.particulars.own

-- the PIDs of the parameters that the maker adds
abbrev pub added_pids : Profile → List ℕ
added_pids p = map (λ d. d.pid) p.particulars.own

-- whether the devices of a profile lack a parameter of the table
abbrev pub is_left_out : Profile → ℕ → Bool
is_left_out p pid = lacks p.particulars.without.items pid

-- a PID among others that are in their order, before the first that isn't below it
abbrev pub with_pid : ℕ → List ℕ → List ℕ
with_pid pid [] = pid ∷ []
with_pid pid (p ∷ ps) = if nat_le pid p then pid ∷ p ∷ ps else p ∷ with_pid pid ps

abbrev pub with_pids : List ℕ → List ℕ → List ℕ
with_pids [] ps = ps
with_pids (pid ∷ pids) ps = with_pids pids (with_pid pid ps)

-- the PIDs of these rows that SUPPORTED_PARAMETERS lists, at the root or at a sub-device
abbrev pub listed : Bool → List Row → List ℕ
listed is_root rows = map (λ r. r.pid) (filter (λ r. (is_root || not r.root_only) && not (is_required r.pid)) rows)

-- what it lists of the table
unfoldable pub table_pids : Bool → List ℕ
table_pids is_root = listed is_root (status ++ information ++ software ++ dmx ++ sensing ++ usage ++ display ++ control)

-- The PIDs that a device supports, beside those that it must, in their order: those of the table that the profile
-- doesn't leave out, and at the root those that it adds. Section 10.4.1.
unfoldable pub supported_pids : Profile → Bool → List ℕ
supported_pids p is_root =
    with_pids (if is_root then added_pids p else []) (filter (λ pid. not (is_left_out p pid)) (table_pids is_root))

unfoldable pub supported : Spot → List ℕ
supported spot = flat_map word_slots (supported_pids spot.profile spot.is_root)

-- Product information with SUPPORTED_PARAMETERS: section 10.4.1
abbrev pub product : List Row
product =
    row 0x0050 both (reads supported) none  -- SUPPORTED_PARAMETERS
    ∷ information

-- every row, in the order of the PIDs
unfoldable pub table : List Row
table = status ++ product ++ software ++ dmx ++ sensing ++ usage ++ display ++ control

-- the first of these rows that has the PID
abbrev pub row_in : List Row → ℕ → Option Row
row_in rows pid = find (λ r. r.pid == pid) rows

-- the row of a PID in the table
unfoldable pub row_of : ℕ → Option Row
unfolding table
row_of pid = row_in table pid

-- the first of two rows, if there is one, else the second
abbrev pub row_or : Option Row → Option Row → Option Row
row_or (Some r) other = Some r
row_or None other = other

-- The row of a PID at the devices of a profile: none if the profile leaves the parameter out, else that of the table, else
-- one that the profile adds.
abbrev pub row_at : Profile → ℕ → Option Row
row_at p pid = if is_left_out p pid then None else row_or (row_of pid) (row_in (added_rows p) pid)

-- what a row has for a GET or a SET
abbrev pub command_in : Option Row → Verb → Option Command
command_in None verb = None
command_in (Some r) Get = r.get
command_in (Some r) Set = r.set

-- what the table has for a PID
abbrev pub command_of : ℕ → Verb → Option Command
command_of pid verb = command_in (row_of pid) verb
