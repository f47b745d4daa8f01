-- Personalities of the root that have slots of their own. Sections 10.6.1 to 10.6.6.
use Rattle.std.specs.Prelude.{ℕ, suc, ◌-◌, Bool, false, ◌==◌, ◌&&◌, ◌||◌, nat_le, List, ◌++◌, length, map, slice_get, Option, None, if◌then◌else◌}
use Rattle.std.specs.Option.{option_map_or}
use Rattle.rdm_profile.specs.declared.profile.Personality.{Personality}
use Rattle.rdm_profile.specs.declared.profile.Profile.{Profile}
use Rattle.rdm_profile.specs.declared.profile.Slot.{Slot}
use Rattle.rdm_profile.specs.declared.profile.Unit.{Unit as DeviceUnit}
use Rattle.rdm_profile.specs.declared.profile.modes.Mode.{Mode}
use Rattle.rdm_profile.specs.declared.profile.modes.ModeShape.{ModeShape}

-- all personalities of a device, of which the first is number 1: those of its unit, and these modes behind them
abbrev pub with_modes : DeviceUnit → List Mode → List Personality
with_modes u modes = u.personalities.items ++ map (λ m. m.personality) modes

-- those of the root
abbrev pub root_personalities : Profile → List Personality
root_personalities p = with_modes p.root p.particulars.modes

-- the mode that the personality of this number is, if it is one
abbrev pub mode_at : Profile → ℕ → Option Mode
mode_at p number =
    if nat_le number (length p.root.personalities.items) then None
    else slice_get p.particulars.modes (number - suc (length p.root.personalities.items))

-- the number of the personality whose slots the one of this number has: its own, unless it is a mode that names another
abbrev pub slots_of : Profile → ℕ → ℕ
slots_of p number = option_map_or (λ m. if m.slots_of == 0 then number else m.slots_of) (mode_at p number) number

-- the slots that are described with the personality of this number: a mode's own, and else those of the profile
abbrev pub own_slots : Profile → ℕ → List Slot
own_slots p number = option_map_or (λ m. m.slots) (mode_at p number) p.slots.items

-- the slots of the personality of this number, wherever they are described
abbrev pub slots_at : Profile → ℕ → List Slot
slots_at p number = own_slots p (slots_of p number)

-- what the rules ask of a mode: how many slots it uses, whose it has, and how many are its own
abbrev pub shape_of : Mode → ModeShape
shape_of m = record { footprint = m.personality.footprint; slots_of = m.slots_of; slots = length m.slots }

abbrev pub mode_shapes : Profile → List ModeShape
mode_shapes p = map shape_of p.particulars.modes

-- whether the personality of this number is there, behind so many of the unit, and has slots of its own
abbrev pub describes : ℕ → List ModeShape → ℕ → Bool
describes units shapes number =
    nat_le 1 number && (nat_le number units || option_map_or (λ s. s.slots_of == 0) (slice_get shapes (number - suc units)) false)

-- whether a mode has at most 46 slots of its own, or else those of a personality that has its own
abbrev pub has_slots : ℕ → List ModeShape → ModeShape → Bool
has_slots units shapes s = if s.slots_of == 0 then nat_le s.slots 46 else (s.slots == 0) && describes units shapes s.slots_of
