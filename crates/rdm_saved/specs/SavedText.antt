-- Which values of devices outlive power-off, and what image they are saved as.
use Rattle.std.specs.Prelude.{ℕ, ◌-◌, ◌%◌, ◌^◌, ◌==◌, Bool, List, [], ◌∷◌, ◌++◌, length, drop, replicate, flat_map, map, min, sum, if◌then◌else◌}
use Rattle.std.specs.List.{list_any}
use Rattle.rdm_profile.specs.declared.profile.Profile.{Profile}
use Rattle.rdm_profile.specs.declared.profile.own.ParameterDef.{ParameterDef}
use Rattle.rdm_profile.specs.declared.profile.Unit.{Unit as DeviceUnit}
use Rattle.rdm_added.specs.Added.{data_type_of, size_of}
use Rattle.rdm_added.specs.Map.{Entry}
use Rattle.rdm_added.specs.Parameters.{Parameters}
use Rattle.rdm_added.specs.declared.state.CommonValues.{CommonValues}
use Rattle.rdm_added.specs.declared.state.RootValues.{RootValues}
use Rattle.rdm_added.specs.Views.State.{common_entries, own_entries, added_entries}
use Rattle.rdm_profile.specs.Modes.{root_personalities}
use Rattle.rdm_profile.specs.Values.{word_slots, long_slots}

-- The values of the moment, which power-off ends: LAMP_STATE, IDENTIFY_DEVICE, POWER_STATE, PERFORM_SELFTEST and
-- PRESET_PLAYBACK. Sections 10.8.4 and 10.11.
abbrev pub is_of_the_moment : ℕ → Bool
is_of_the_moment pid = list_any (λ m. pid == m) (0x0403 ∷ 0x1000 ∷ 0x1010 ∷ 0x1020 ∷ 0x1031 ∷ [])

-- a label: how many bytes it has, and 32 bytes that begin with them
abbrev pub label_text : List ℕ → List ℕ
label_text label = length label ∷ label ++ replicate (32 - length label) 0

-- What is saved of a value: of a sensor the recorded value, behind the present, the lowest and the highest one; of the
-- others the bytes, but for those of the moment.
abbrev pub lasting : Entry → List ℕ
lasting e =
    if is_of_the_moment e.pid then []
    else if e.pid == 0x0201 then drop 6 e.bytes
    else if e.pid == 0x0082 then label_text e.bytes else e.bytes

-- what is saved of a device, in the order of its values
abbrev pub device_text : List Entry → List ℕ
device_text entries = flat_map lasting entries

-- what is saved of a value of a parameter that the maker adds: its key, and the value as a label, whatever its data are
abbrev pub kept_text : Entry → List ℕ
kept_text e = word_slots e.pid ++ word_slots e.index ++ label_text e.bytes

abbrev pub added_text : List Entry → List ℕ
added_text entries = flat_map kept_text entries

-- the model, the software version and how many personalities there are
abbrev pub unit_text : DeviceUnit → ℕ → List ℕ
unit_text u personalities = word_slots u.model ++ long_slots u.software ++ personalities ∷ []

-- The two kinds of devices; and how many sub-devices, sensors, parameters that the maker adds, PIDs that are left out, and values of
-- parameters that the maker adds there are.
abbrev pub devices_text : Profile → ℕ → List ℕ
devices_text p kept =
    unit_text p.root (length (root_personalities p)) ++ unit_text p.sub (length p.sub.personalities.items) ++ word_slots p.subs
    ++ length p.sensors.items ∷ length p.particulars.own ∷ length p.particulars.without.items ∷ word_slots (min kept 65535)

-- a parameter that the maker adds: its PID, and which data it has
abbrev pub own_text : ParameterDef → List ℕ
own_text d = word_slots d.pid ++ data_type_of d.shape ∷ size_of d.shape ∷ []

-- What an image says of the profile, so that one of another profile is told, and where its values stand: its devices, the parameters
-- that the maker adds, of which so many values are kept, and the PIDs that are left out.
abbrev pub profile_text : Profile → ℕ → List ℕ
profile_text p kept =
    devices_text p kept ++ flat_map own_text p.particulars.own ++ flat_map word_slots p.particulars.without.items

-- the sum of bytes, in four
abbrev pub sum_text : List ℕ → List ℕ
sum_text bytes = long_slots (sum bytes % 2 ^ 32)

-- the manufacturer ID, the profile, the root, the parameters that the maker adds to it, and the sub-devices in their order
abbrev pub values_text : ℕ → Parameters → List ℕ
values_text maker p =
    word_slots maker ++ profile_text p.profile (length p.added) ++ device_text p.root ++ added_text p.added
    ++ flat_map device_text p.subs

-- The image of the values of a fixture with this manufacturer ID.
unfoldable pub saved_text : ℕ → Parameters → List ℕ
saved_text maker p = values_text maker p ++ sum_text (values_text maker p)

-- the values of a root device, and of sub-devices
abbrev pub kept : Profile → CommonValues → RootValues → List CommonValues → Parameters
kept profile root own subs = record {
  profile = profile;
  root = common_entries root ++ own_entries own;
  added = added_entries own.added.items;
  subs = map common_entries subs;
}
