-- What the ranges and replies of one device depend on.
use Rattle.std.specs.Prelude.{ℕ, ◌-◌, Bool, false, List, [], slice_get, slice_index, if◌then◌else◌}
use Rattle.std.specs.Option.{option_map_or}
use Rattle.rdm_profile.specs.declared.profile.Personality.{Personality}
use Rattle.rdm_profile.specs.declared.profile.Profile.{Profile}
use Rattle.rdm_profile.specs.declared.profile.Slot.{Slot}
use Rattle.rdm_profile.specs.declared.profile.Unit.{Unit as DeviceUnit}
use Rattle.rdm_profile.specs.declared.value.Value.{Value}
use Rattle.rdm_profile.specs.Modes.{slots_at, with_modes}
use Rattle.rdm_added.specs.Map.{Entry, lookup}

-- A device: the profile, what it says of the device, whether it is the root, its values, and those of the parameters that the
-- maker adds.
pub record Spot : Type 0 where
  pub profile : Profile
  pub unit : DeviceUnit
  pub is_root : Bool
  pub entries : List Entry
  pub added : List Entry

-- a sub-device of the profile that keeps these values
abbrev pub sub_device : Profile → List Entry → Spot
sub_device profile entries = record { profile = profile; unit = profile.sub; is_root = false; entries = entries; added = [] }

-- the number of the current personality, from 1
abbrev pub personality : Spot → ℕ
personality spot = slice_index (lookup spot.entries 0x00E0 0) 0

-- all personalities of the device, of which the first is number 1: only the root has modes. Section 10.6.1.
abbrev pub personalities : Spot → List Personality
personalities spot = with_modes spot.unit (if spot.is_root then spot.profile.particulars.modes else [])

-- how many slots the current personality uses
abbrev pub footprint : Spot → ℕ
footprint spot = option_map_or (λ m. m.footprint) (slice_get (personalities spot) (personality spot - 1)) 0

-- the slots that are described of the current personality. Section 10.6.4.
abbrev pub slots : Spot → List Slot
slots spot = slots_at spot.profile (personality spot)

-- Whether a value is in range at a device. No value of another form is.
abbrev pub Range : Type 0
Range = Spot → Value → Bool

-- the bytes that an entry of a device becomes, by the value of a command
abbrev pub Change : Type 0
Change = Spot → Value → Entry → List ℕ
