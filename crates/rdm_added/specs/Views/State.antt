-- The values that devices keep, as a map by keys.
use Rattle.std.specs.Prelude.{ℕ, suc, List, [], ◌∷◌, ◌++◌, map, Option, Some, None, if◌then◌else◌}
use Rattle.rdm_added.specs.declared.state.CommonValues.{CommonValues}
use Rattle.rdm_added.specs.declared.state.Kept.{Kept}
use Rattle.rdm_added.specs.declared.state.Measured.{Measured}
use Rattle.rdm_added.specs.declared.state.RootValues.{RootValues}
use Rattle.rdm_added.specs.Map.{Entry, entry, has_key}
use Rattle.rdm_profile.specs.Values.{word_slots, long_slots, signed_slots}

-- the keys of every device
unfoldable pub common_entries : CommonValues → List Entry
common_entries d =
    entry 0x0033 0 (d.report_threshold ∷ [])
    ∷ entry 0x0082 0 d.label
    ∷ entry 0x00E0 0 (d.personality ∷ [])
    ∷ entry 0x00F0 0 (word_slots d.start)
    ∷ entry 0x0401 0 (long_slots d.lamp_hours)
    ∷ entry 0x0402 0 (long_slots d.lamp_strikes)
    ∷ entry 0x0403 0 (d.lamp_state ∷ [])
    ∷ entry 0x0404 0 (d.lamp_on_mode ∷ [])
    ∷ entry 0x1000 0 (d.identify ∷ [])
    ∷ entry 0x1010 0 (d.power_state ∷ [])
    ∷ []

-- the present, lowest, highest and recorded value of a sensor
abbrev pub measured_slots : Measured → List ℕ
measured_slots m = signed_slots m.present ++ signed_slots m.lowest ++ signed_slots m.highest ++ signed_slots m.recorded

-- the keys of the sensors from number n on
abbrev pub sensor_entries : ℕ → List Measured → List Entry
sensor_entries n [] = []
sensor_entries n (m ∷ ms) = entry 0x0201 n (measured_slots m) ∷ sensor_entries (suc n) ms

-- the keys of the root alone
unfoldable pub own_entries : RootValues → List Entry
own_entries d =
    entry 0x00B0 0 (word_slots d.language)
    ∷ entry 0x0400 0 (long_slots d.device_hours)
    ∷ entry 0x0405 0 (long_slots d.power_cycles)
    ∷ entry 0x0500 0 (d.display_invert ∷ [])
    ∷ entry 0x0501 0 (d.display_level ∷ [])
    ∷ entry 0x0600 0 (d.pan_invert ∷ [])
    ∷ entry 0x0601 0 (d.tilt_invert ∷ [])
    ∷ entry 0x0602 0 (d.pan_tilt_swap ∷ [])
    ∷ entry 0x1020 0 (d.self_test ∷ [])
    ∷ entry 0x1031 0 (word_slots d.preset.0 ++ d.preset.1 ∷ [])
    ∷ sensor_entries 0 d.sensors.items

-- the keys that the root has and a sub-device lacks
abbrev pub own_if : Option RootValues → List Entry
own_if None = []
own_if (Some d) = own_entries d

-- the key of a value of a parameter that the maker added
abbrev pub kept_entry : Kept → Entry
kept_entry k = entry k.pid k.index k.bytes

-- the keys of the parameters that the maker added
abbrev pub added_entries : List Kept → List Entry
added_entries ks = map kept_entry ks

-- the entry with these bytes, if it has this key
abbrev pub stored_in : ℕ → ℕ → List ℕ → Entry → Entry
stored_in pid index bytes e = entry e.pid e.index (if has_key pid index e then bytes else e.bytes)

-- the entry with the bytes that it becomes
abbrev pub made_of : (Entry → List ℕ) → Entry → Entry
made_of becomes e = entry e.pid e.index (becomes e)

-- no entry
abbrev pub no_entry : Entry
no_entry = entry 0 0 []

-- those of the root; a sub-device has none
abbrev pub added_if : Option RootValues → List Entry
added_if None = []
added_if (Some d) = added_entries d.added.items
