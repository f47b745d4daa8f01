-- What the entries of a device become by a SET.
use Rattle.std.specs.Prelude.{◌≡◌, ℕ, ◌==◌, ◌&&◌, ◌||◌, List, ◌++◌, take, if◌then◌else◌}
use Rattle.std.specs.List.{list_any}
use Rattle.rdm_profile.specs.declared.profile.Profile.{Profile}
use Rattle.rdm_profile.specs.declared.value.Value.{Value}
use Rattle.rdm_profile.specs.Forms.{Form, has_form}
use Rattle.rdm_added.specs.Locking.{is_locked}
use Rattle.rdm_added.specs.Map.{Entry, has_key, lookup, update}
use Rattle.rdm_added.specs.Parameters.{root_at_start}
use Rattle.rdm_device.specs.Columns.Replies.{factory_pids}
use Rattle.rdm_added.specs.Spot.{Spot, Change}
use Rattle.rdm_profile.specs.Values.{bytes_of, byte_or_0}

-- Values become what the change makes of them, at a device of this profile that has these values of the maker's own parameters.
abbrev pub IsChanged : Change → Value → Profile → List Entry → List Entry → List Entry → Type 0
IsChanged change value profile added old new = (spot : Spot) → spot.profile ≡ profile → spot.added ≡ added → new ≡ update (change spot value) old

-- no entry changes
abbrev pub unchanged : Change
unchanged spot v e = e.bytes

-- the entry of this PID takes the value, if it has the form
abbrev pub stored_at : ℕ → Form → Change
stored_at pid form spot v e = if has_key pid 0 e && has_form form v then bytes_of v else e.bytes

-- what the bytes of an entry become, unless the lock state locks its parameter. E1.37-1, LOCK_STATE.
abbrev pub unless_locked : Spot → Entry → List ℕ → List ℕ
unless_locked spot e bytes = if is_locked spot.profile.particulars.locks spot.added e.pid then e.bytes else bytes

-- Each parameter that FACTORY_DEFAULTS sets back takes the value that it starts with, unless it is locked. Section 10.5.6.
abbrev pub set_back : Change
set_back spot v e =
    if list_any (λ pid. has_key pid 0 e) factory_pids then unless_locked spot e (lookup (root_at_start spot.profile) e.pid 0) else e.bytes

-- the entries of the sensors that a byte names, one or with FF all, become what is made of their bytes
abbrev pub sensor_change : (List ℕ → List ℕ) → ℕ → Entry → List ℕ
sensor_change made number e = if (e.pid == 0x0201) && ((number == 0xFF) || (e.index == number)) then made e.bytes else e.bytes

-- the lowest, the highest and the recorded value become the present one
abbrev pub reset : List ℕ → List ℕ
reset bytes = take 2 bytes ++ take 2 bytes ++ take 2 bytes ++ take 2 bytes

-- SENSOR_VALUE resets the sensors that it names. Section 10.7.2.
abbrev pub sensors_reset : Change
sensors_reset spot v e = sensor_change reset (byte_or_0 v) e

-- the recorded value becomes the present one
abbrev pub record_present : List ℕ → List ℕ
record_present bytes = take 6 bytes ++ take 2 bytes

-- RECORD_SENSORS records the present value of the sensors that it names. Section 10.7.3.
abbrev pub sensors_recorded : Change
sensors_recorded spot v e = sensor_change record_present (byte_or_0 v) e
