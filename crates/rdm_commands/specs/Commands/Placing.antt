-- Values that the firmware of a fixture places: which it may, and the values afterwards. What is placed has the form and the effect of a
-- SET at that device, and is what a GET may tell there; no message tells of it. Sections 9 and 10.
use Rattle.std.specs.Prelude.{ℕ, Bool, false, ◌==◌, ◌&&◌, not, List, length, Option, Some, None, Result, Ok, Err, is_ok, is_some, slice_get, slice_index, find, if◌then◌else◌}
use Rattle.std.specs.Option.{option_map_or}
use Rattle.rdm_frame.specs.declared.nack.Nack.{Nack}
use Rattle.rdm_table.specs.declared.kind.Verb.TheVariants.{Get, Set}
use Rattle.rdm_commands.specs.declared.placing.PlaceError.{PlaceError}
use Rattle.rdm_commands.specs.declared.placing.PlaceError.TheVariants.{NoDevice, NoValue, Length, OutOfRange}
use Rattle.rdm_profile.specs.declared.value.Value.{Value}
use Rattle.rdm_profile.specs.declared.value.Value.TheVariants.{Byte}
use Rattle.rdm_commands.specs.Commands.Commands.{addressed, carried_out, root_spot}
use Rattle.rdm_table.specs.Table.Rows.{command_of, row_of, is_left_out}
use Rattle.rdm_profile.specs.declared.profile.own.ParameterDef.{ParameterDef}
use Rattle.rdm_added.specs.Added.{keeps_data, placed_form, placed_within, placed_stored, is_pid_of}
use Rattle.rdm_profile.specs.Forms.{value_of}
use Rattle.rdm_added.specs.Map.{Entry, update}
use Rattle.rdm_device.specs.Device.Measuring.{placed_by}
use Rattle.rdm_added.specs.Parameters.{Parameters}
use Rattle.rdm_added.specs.Spot.{Spot}
use Rattle.rdm_table.specs.Table.Uses.{access, read, keeps, in_range_of, can_tell}

-- The device of this number: 0 is the root, and the sub-devices are numbered from 1. 65535 is none. Section 9.
abbrev pub device : Parameters → ℕ → Option Spot
device p sub = if sub == 0xFFFF then None else slice_get (addressed p sub Get) 0

-- whether the device has the parameter of the table, and a SET of it
abbrev pub has_set : Parameters → ℕ → ℕ → Bool
has_set p sub pid = is_ok (access (row_of pid) (sub == 0) Set) && not (is_left_out p.profile pid)

-- the refusal of the value that the data say, by what a GET may tell at the device
abbrev pub value_refusal : Parameters → ℕ → ℕ → Result Value Nack → Option PlaceError
value_refusal p sub pid (Err nack) = Some Length
value_refusal p sub pid (Ok value) =
    if option_map_or (λ spot. can_tell (command_of pid Set) spot value) (device p sub) false then None else Some OutOfRange

-- the parameter that the maker adds with this PID: the root has it, where the table has none
abbrev pub own_at : Parameters → ℕ → ℕ → Option ParameterDef
own_at p sub pid =
    if is_left_out p.profile pid then None
    else if is_some (row_of pid) then None
    else if sub == 0 then find (is_pid_of pid) p.profile.particulars.own else None

-- the refusal of data of a parameter that keeps some
abbrev pub data_refusal : ParameterDef → List ℕ → Option PlaceError
data_refusal d bytes =
    option_map_or (λ value. if placed_within d.shape d value then None else Some OutOfRange)
    (value_of (placed_form d.shape) bytes) (Some Length)

-- The refusal of data as its value, or as one of its scenes, whichever commands it has.
abbrev pub own_refusal : ParameterDef → List ℕ → Option PlaceError
own_refusal d bytes = if keeps_data d.shape then data_refusal d bytes else Some NoValue

-- what these data make of the values of the parameters that the maker adds
abbrev pub own_values : Spot → ParameterDef → List ℕ → List Entry
own_values spot d bytes =
    option_map_or (λ value. update (placed_stored d spot value) spot.added) (value_of (placed_form d.shape) bytes) spot.added

abbrev pub own_placed : Parameters → ParameterDef → List ℕ → Parameters
own_placed p d bytes = record p { added = own_values (root_spot p) d bytes }

-- The refusal of what a sensor shows, in the 9 slots of its GET: the first names a sensor that there is. Section 10.7.2.
abbrev pub sensor_refusal : Parameters → List ℕ → Option PlaceError
sensor_refusal p bytes =
    if not (length bytes == 9) then Some Length
    else if in_range_of (command_of 0x0201 Get) (root_spot p) (Byte (slice_index bytes 0)) then None else Some OutOfRange

-- Why data are refused, by the first reason: there is no such device; it stores no such value; the data have another
-- length; the value is out of range. Stored values are those of which a SET keeps the data, what a sensor shows, and those of the
-- parameters that the maker adds.
unfoldable pub place_refusal : Parameters → ℕ → ℕ → List ℕ → Option PlaceError
place_refusal p sub pid bytes =
    if not (is_some (device p sub)) then Some NoDevice
    else if not (has_set p sub pid) then option_map_or (λ d. own_refusal d bytes) (own_at p sub pid) (Some NoValue)
    else if keeps (command_of pid Set) then value_refusal p sub pid (read (command_of pid Set) bytes)
    else if pid == 0x0201 then sensor_refusal p bytes else Some NoValue

-- the values after the SET is carried out at the device
abbrev pub after_value : Parameters → ℕ → ℕ → Result Value Nack → Parameters
after_value p sub pid (Err nack) = p
after_value p sub pid (Ok value) = carried_out p sub (command_of pid Set) value

-- The values after data were placed; if they are refused, nothing changes.
unfoldable pub after_place : Parameters → ℕ → ℕ → List ℕ → Parameters
after_place p sub pid bytes =
    if is_some (place_refusal p sub pid bytes) then p
    else if not (has_set p sub pid) then option_map_or (λ d. own_placed p d bytes) (own_at p sub pid) p
    else if keeps (command_of pid Set) then after_value p sub pid (read (command_of pid Set) bytes)
    else record p { root = update (placed_by bytes) p.root }
