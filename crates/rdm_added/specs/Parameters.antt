-- The values that a root device and its sub-devices keep, and those that they start with. E1.20 section 9.
use Rattle.std.specs.Prelude.{ℕ, suc, List, [], ◌∷◌, ◌++◌, flat_map, replicate, slice_index, if◌then◌else◌}
use Rattle.rdm_profile.specs.declared.profile.own.ParameterDef.{ParameterDef}
use Rattle.rdm_profile.specs.declared.profile.Profile.{Profile}
use Rattle.rdm_profile.specs.declared.profile.SensorDef.{SensorDef}
use Rattle.rdm_profile.specs.declared.profile.Unit.{Unit as DeviceUnit}
use Rattle.rdm_added.specs.Map.{Entry, entry}
use Rattle.rdm_added.specs.Scenes.{scenes_by}
use Rattle.rdm_profile.specs.OwnParameters.{is_order}
use Rattle.rdm_profile.specs.Values.{word_slots, long_slots}

-- the profile, the values of the root, those of the parameters that the maker adds to it, and those of each sub-device, of which
-- the first is number 1
pub record Parameters : Type 0 where
  pub profile : Profile
  pub root : List Entry
  pub added : List Entry
  pub subs : List (List Entry)

-- what every device starts with: reports from advisories on, the label and the start address of its unit, the first
-- personality, the lamp off, the power state normal
unfoldable pub common_at_start : DeviceUnit → List Entry
common_at_start u =
    entry 0x0033 0 (2 ∷ [])
    ∷ entry 0x0082 0 u.label
    ∷ entry 0x00E0 0 (1 ∷ [])
    ∷ entry 0x00F0 0 (word_slots u.start)
    ∷ entry 0x0401 0 (long_slots 0)
    ∷ entry 0x0402 0 (long_slots 0)
    ∷ entry 0x0403 0 (0 ∷ [])
    ∷ entry 0x0404 0 (0 ∷ [])
    ∷ entry 0x1000 0 (0 ∷ [])
    ∷ entry 0x1010 0 (0xFF ∷ [])
    ∷ []

-- the sensors from number n on: every value is 0
abbrev pub sensors_at_start : ℕ → List SensorDef → List Entry
sensors_at_start n [] = []
sensors_at_start n (d ∷ ds) = entry 0x0201 n (replicate 8 0) ∷ sensors_at_start (suc n) ds

-- what the root starts with beside it: the first language, the display at full level, no self test, no preset
unfoldable pub own_at_start : Profile → List Entry
own_at_start p =
    entry 0x00B0 0 (word_slots (slice_index p.languages.items 0))
    ∷ entry 0x0400 0 (long_slots 0)
    ∷ entry 0x0405 0 (long_slots 0)
    ∷ entry 0x0500 0 (0 ∷ [])
    ∷ entry 0x0501 0 (0xFF ∷ [])
    ∷ entry 0x0600 0 (0 ∷ [])
    ∷ entry 0x0601 0 (0 ∷ [])
    ∷ entry 0x0602 0 (0 ∷ [])
    ∷ entry 0x1020 0 (0 ∷ [])
    ∷ entry 0x1031 0 (word_slots 0 ++ 0 ∷ [])
    ∷ sensors_at_start 0 p.sensors.items

-- what the root starts with
abbrev pub root_at_start : Profile → List Entry
root_at_start p = common_at_start p.root ++ own_at_start p

-- how many orders there were at start: none
abbrev pub no_orders : ParameterDef → List Entry
no_orders d = if is_order d.rights then entry d.pid 1 (0 ∷ []) ∷ [] else []

-- what a parameter that the maker adds starts with: its data, the count of it, if it is an order, and its scenes, if it has some
abbrev pub kept_at_start : ParameterDef → List Entry
kept_at_start d = entry d.pid 0 d.start ∷ no_orders d ++ scenes_by d.shape d

-- what the parameters that the maker adds start with
abbrev pub added_at_start : List ParameterDef → List Entry
added_at_start ds = flat_map kept_at_start ds

-- what the devices of a profile start with
unfoldable pub parameters_of : Profile → Parameters
parameters_of p = record { profile = p; root = root_at_start p; added = added_at_start p.particulars.own; subs = replicate p.subs (common_at_start p.sub) }
