-- Which slots of DMX512 a device takes, and which of them clash. E1.20 sections 9, 10.5.1 and 10.6.3.
use Rattle.std.specs.Prelude.{ℕ, ◌+◌, ◌-◌, ◌≤◌, ◌==◌, ◌&&◌, nat_le, nat_lt, Bool, List, [], ◌∷◌, ◌++◌, map, filter, Option, Some, None, if◌then◌else◌}
use Rattle.std.specs.List.{flat_map}
use Rattle.rdm_frame.specs.declared.uid.Uid.{Uid}
use Rattle.rdm_survey.specs.declared.device.Device.{Device}
use Rattle.rdm_survey.specs.declared.device_info.DeviceInfo.{DeviceInfo}
use Rattle.rdm_survey.specs.declared.row.Row.{Row}
use Rattle.rdm_survey.specs.declared.row.SubDevice.{SubDevice}
use Rattle.rdm_survey.specs.declared.place.Place.{Place}
use Rattle.rdm_survey.specs.declared.place.Clash.{Clash}
use Rattle.rdm_survey.specs.declared.place.Clash.TheVariants.{PastEnd, Overlap}

-- A device takes slots if it has a start address and its footprint is above 0.
abbrev pub device : Uid → ℕ → Option ℕ → ℕ → List Device
device uid sub None footprint = []
device uid sub (Some address) footprint =
    if footprint == 0 then [] else record { uid = uid; sub = sub; address = address; footprint = footprint } ∷ []

abbrev pub root_device : Uid → Option DeviceInfo → List Device
root_device uid None = []
root_device uid (Some root) = device uid 0 root.address root.footprint

abbrev pub sub_device : Uid → SubDevice → List Device
sub_device uid sub = device uid sub.number sub.address sub.footprint

-- those of a fixture: its root, and its sub-devices
abbrev pub devices_of : Row → List Device
devices_of row = root_device row.uid row.device ++ flat_map (sub_device row.uid) row.sub_devices.items

-- Those that take slots, in the order of the rows.
abbrev pub devices : List Row → List Device
devices rows = flat_map devices_of rows

-- The slots from its start address on, as many as the footprint says.
abbrev pub place_of : Device → Place
place_of d = record { uid = d.uid; sub = d.sub; first = d.address; last = d.address + d.footprint - 1 }

abbrev pub places : List Row → List Place
places rows = map place_of (devices rows)

-- There is a slot that both take.
abbrev pub meets : Place → Place → Bool
meets a b = nat_le a.first b.last && nat_le b.first a.last

-- a place that goes past slot 512, the last of DMX512
abbrev pub past_end : Place → List Clash
past_end a = if nat_lt 512 a.last then PastEnd a ∷ [] else []

-- what is wrong with a place, by itself and with those behind it
abbrev pub clashes_with : Place → List Place → List Clash
clashes_with a rest = past_end a ++ map (λ b. Overlap a b) (filter (λ b. meets a b) rest)

abbrev pub clashes_of : List Place → List Clash
clashes_of [] = []
clashes_of (a ∷ rest) = clashes_with a rest ++ clashes_of rest

-- Each place that goes past slot 512, and each two places that have a slot in common, once, in the order of the rows.
abbrev pub clashes : List Row → List Clash
clashes rows = clashes_of (places rows)

-- the slot is one that the place takes
abbrev pub Takes : Place → ℕ → Type 0
Takes a slot = (a.first ≤ slot) × (slot ≤ a.last)
