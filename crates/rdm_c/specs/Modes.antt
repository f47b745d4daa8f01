-- The DMX512 slot that a plain struct of C's stands for, and the personality that has some of its own. E1.20 sections 10.6.1 to 10.6.6.
use Rattle.std.specs.Prelude.{ℕ, ◌+◌, ◌≤◌, Bool, nat_le, List, [], length, map, take, drop, replicate, All, if◌then◌else◌}
use Rattle.rdm_profile.specs.declared.profile.Slot.{Slot}
use Rattle.rdm_profile.specs.declared.profile.modes.Mode.{Mode}
use Rattle.rdm_c.specs.declared.profile.SlotNumbers.{SlotNumbers}
use Rattle.rdm_c.specs.declared.profile.modes.ModeNumbers.{ModeNumbers}
use Rattle.rdm_c.specs.Texts.{text_in}

abbrev pub slot_in : SlotNumbers → Slot
slot_in s = record { kind = s.kind; label = s.label; value = s.value; name = text_in s.name }

-- one slot more than a mode can have, with which no profile is good
unfoldable pub too_many : List Slot
too_many = replicate 47 (record { kind = 0; label = 0; value = 0; name = [] })

-- whether the slots that a mode names are there, among so many
abbrev pub are_there : ModeNumbers → ℕ → Bool
are_there m count = nat_le (m.first_slot + m.slot_count) count

-- the slots of its own that a mode has, of these; one that names slots which aren't there has more than a mode can have
abbrev pub own_slots_in : List SlotNumbers → ModeNumbers → List Slot
own_slots_in slots m =
    if are_there m (length slots) then map slot_in (take m.slot_count (drop m.first_slot slots)) else too_many

-- the mode, with its slots among these
abbrev pub mode_in : List SlotNumbers → ModeNumbers → Mode
mode_in slots m = record {
  personality = record { footprint = m.footprint; name = text_in m.name };
  slots_of = m.slots_of;
  slots = own_slots_in slots m;
}

-- None of these modes has more slots of its own than a mode can have.
abbrev pub HaveFewSlots : List SlotNumbers → List ModeNumbers → Type 0
HaveFewSlots slots modes = All (λ m. length (own_slots_in slots m) ≤ 46) modes
