-- Start addresses one behind the other, so that no two devices share a slot. E1.20 sections 9, 10.5.1 and 10.6.3.
use Rattle.std.specs.Prelude.{◌≡◌, ℕ, ◌+◌, ◌-◌, ◌<◌, ◌≤◌, ◌==◌, min, List, [], ◌∷◌, ◌++◌, sum_by, Option, Some, None, if◌then◌else◌, ⊤}
use Rattle.rdm_survey.specs.declared.device.Device.{Device}
use Rattle.rdm_survey.specs.declared.row.Row.{Row}
use Rattle.rdm_survey.specs.declared.place.Place.{Place}
use Rattle.rdm_survey.specs.Places.{devices, place_of}
use Rattle.rdm_addresses.specs.declared.assignment.Assignment.{Assignment}
use Rattle.rdm_addresses.specs.declared.proposing.ProposalError.{ProposalError}
use Rattle.rdm_addresses.specs.declared.proposing.ProposalError.TheVariants as error

-- the slots of a device, and the gap behind them
abbrev pub room : ℕ → Device → ℕ
room gap d = d.footprint + gap

-- The start address behind these devices: the sum of their slots and gaps behind the first address.
abbrev pub behind : ℕ → ℕ → List Device → ℕ
behind from gap before = from + sum_by (room gap) before

abbrev pub assigned : Device → ℕ → Assignment
assigned d address = record { uid = d.uid; sub = d.sub; was = d.address; address = address; footprint = d.footprint }

-- Each device has the start address behind all those before it, of which the first ones are told apart.
abbrev pub assignments_behind : ℕ → ℕ → List Device → List Device → List Assignment
assignments_behind from gap before [] = []
assignments_behind from gap before (d ∷ more) =
    assigned d (behind from gap before) ∷ assignments_behind from gap (before ++ d ∷ []) more

abbrev pub assignments : ℕ → ℕ → List Device → List Assignment
assignments from gap list = assignments_behind from gap [] list

-- What is proposed for the fixtures of a survey.
abbrev pub proposal : ℕ → ℕ → List Row → List Assignment
proposal from gap rows = assignments from gap (devices rows)

-- The last slot that these devices need, where no gap is behind the last of them. No devices need none.
abbrev pub last_slot : ℕ → ℕ → List Device → ℕ
last_slot from gap [] = 0
last_slot from gap (d ∷ more) = behind from gap (d ∷ more) - gap - 1

-- DMX512 has slots 1 to 512, and the devices need no others.
abbrev pub Fits : ℕ → ℕ → List Device → Type 0
Fits from gap list = (1 ≤ from) × (last_slot from gap list ≤ 512)

-- the greatest number of 32 bits
abbrev pub greatest : ℕ
greatest = 0xFFFF_FFFF

-- When each error comes. The last slot is told exactly; beyond 32 bits the greatest number stands for it.
abbrev pub IsReason : ProposalError → ℕ → ℕ → List Device → Type 0
IsReason error.OutOfMemory from gap list = ⊤
IsReason error.SlotZero from gap list = from ≡ 0
IsReason (error.NoRoom last) from gap list = (1 ≤ from) × (512 < last_slot from gap list) × (last ≡ min (last_slot from gap list) greatest)

-- the slots of a device before and after
abbrev pub place_before : Device → Place
place_before d = place_of d

abbrev pub place_after : Assignment → Place
place_after a = record { uid = a.uid; sub = a.sub; first = a.address; last = a.address + a.footprint - 1 }

-- the device that an assignment is for
abbrev pub device_in : Assignment → Device
device_in a = record { uid = a.uid; sub = a.sub; address = a.was; footprint = a.footprint }
