-- The slots that all sub-devices use, as one block of addresses. E1.37-1, DMX_BLOCK_ADDRESS.
use Rattle.std.specs.Prelude.{◌≡◌, ℕ, ◌+◌, min, Bool, true, ◌==◌, ◌&&◌, ◌||◌, not, nat_le, is_some, List, [], ◌∷◌, ◌++◌, map, find, if◌then◌else◌}
use Rattle.std.specs.Int.{w16, from_be_bytes}
use Rattle.std.specs.List.{list_all, sum_by}
use Rattle.std.specs.Option.{option_map_or}
use Rattle.rdm_profile.specs.declared.profile.Profile.{Profile}
use Rattle.rdm_profile.specs.declared.value.Value.TheVariants.{Word}
use Rattle.rdm_device.specs.Columns.Changes.{stored_at}
use Rattle.rdm_profile.specs.Forms.{word}
use Rattle.rdm_added.specs.Map.{Entry, lookup, value_at, update}
use Rattle.rdm_added.specs.Spot.{Spot, sub_device, footprint}
use Rattle.rdm_profile.specs.Values.{word_slots}

-- the sub-devices of a profile that keep these values, in the order of their numbers
abbrev pub sub_devices : Profile → List (List Entry) → List Spot
sub_devices profile subs = map (sub_device profile) subs

-- whether a device uses slots
abbrev pub has_slots : Spot → Bool
has_slots spot = not (footprint spot == 0)

-- how many slots they use together
abbrev pub total : List Spot → ℕ
total spots = sum_by footprint spots

-- the start address among the values of a device
abbrev pub start_in : List Entry → ℕ
start_in entries = from_be_bytes w16 (lookup entries 0x00F0 0)

-- whether those that use slots follow one another without gaps from this address on
abbrev pub follow : ℕ → List Spot → Bool
follow next [] = true
follow next (spot ∷ spots) = ((footprint spot == 0) || (start_in spot.entries == next)) && follow (next + footprint spot) spots

-- this address, if they do, else FFFF
abbrev pub base_if : ℕ → List Spot → ℕ
base_if start spots = if follow start spots then start else 0xFFFF

-- The base address: the start address of the first that uses slots, if they follow one another from there on, else FFFF.
abbrev pub base_address : List Spot → ℕ
base_address spots = option_map_or (λ spot. base_if (start_in spot.entries) spots) (find has_slots spots) 0xFFFF

-- what a GET tells: how many slots they use together, at most as many as two slots can say, and the base address
abbrev pub block_slots : List Spot → List ℕ
block_slots spots = word_slots (min (total spots) 0xFFFF) ++ word_slots (base_address spots)

-- whether the block can start at an address: there is one, and its last slot is one of the 512
abbrev pub fits : ℕ → List Spot → Bool
fits base spots = nat_le 1 base && nat_le 1 (total spots) && nat_le (base + total spots) 513

-- the values of a device that uses slots, and starts at this address; one that uses none keeps its own
abbrev pub started : ℕ → Spot → List Entry
started base spot = if footprint spot == 0 then spot.entries else update (stored_at 0x00F0 word spot (Word base)) spot.entries

-- the values of all, where the block starts at this address: each starts behind those before it
abbrev pub started_from : ℕ → List Spot → List (List Entry)
started_from base [] = []
started_from base (spot ∷ spots) = started base spot ∷ started_from (base + footprint spot) spots

-- ---- the law

-- whether a device keeps a start address
abbrev pub keeps_start : List Entry → Bool
keeps_start entries = is_some (value_at entries 0x00F0)

-- Where the block starts at an address at which it can, a GET tells this address, and as many slots as before.
abbrev pub BlockIsTold : Type 0
BlockIsTold =
    (profile : Profile) (subs : List (List Entry)) (base : ℕ)
    → list_all keeps_start subs ≡ true → fits base (sub_devices profile subs) ≡ true
    → block_slots (sub_devices profile (started_from base (sub_devices profile subs)))
    ≡ word_slots (total (sub_devices profile subs)) ++ word_slots base
