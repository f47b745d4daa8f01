-- Personalities of the root behind those of its `[[personality]]` tables: each has slots of its own, or those of another one.
use Rattle.std.specs.Prelude.{◌≡◌, ℕ, IsTrue, List, [], ◌∷◌, codes}
use Rattle.toml.specs.Data.{Members}
use Rattle.rdm_profile.specs.declared.profile.modes.Mode.{Mode}
use Rattle.rdm_profile.specs.declared.profile.modes.ModeShape.{ModeShape}
use Rattle.rdm_profile.specs.Modes.{shape_of}
use Rattle.rdm_fixture.specs.declared.modes.SaidMode.{SaidMode}
use Rattle.rdm_fixture.specs.Lists.{OfTable, Lists, entries}
use Rattle.rdm_fixture_keys.specs.Entries.{IsSlot, slot_parts}
use Rattle.rdm_fixture_keys.specs.Keys.{Must, May, has_only}
use Rattle.rdm_fixture_keys.specs.Values.{number, text}
use Rattle.rdm_fixture_keys.specs.Wrong.{Part, FirstWrong, only, needed_number, free_number, free_text}

abbrev pub mode_keys : List (List ℕ)
mode_keys = codes "dmx_footprint" ∷ codes "description" ∷ codes "slots_of" ∷ codes "slot" ∷ []

-- A personality with slots of its own, or those of another one. Sections 10.6.1 to 10.6.6.
pub record IsMode (t : Members) (m : Mode) : Type 0 where
  pub keys : IsTrue (has_only mode_keys t)
  pub footprint : Must t (codes "dmx_footprint") (number 0 512) m.personality.footprint
  pub name : May t (codes "description") [] text m.personality.name
  pub slots_of : May t (codes "slots_of") 0 (number 0 255) m.slots_of
  pub slots : Lists t (codes "slot") (OfTable IsSlot) 0 46 m.slots

-- the table says these modes
abbrev pub AreModes : Members → List Mode → Type 0
AreModes t ms = Lists t (codes "mode") (OfTable IsMode) 0 247 ms

-- the mode that was read before there was memory for its slots
abbrev pub mode_said : SaidMode → Mode
mode_said s = record { personality = s.personality; slots_of = s.slots_of; slots = s.slots.items }

-- ---- what is looked at, part by part, in the order in which it is done

abbrev pub mode_parts : List Part
mode_parts =
    only mode_keys ∷ needed_number (codes "dmx_footprint") 0 512 ∷ free_text (codes "description") ∷ free_number (codes "slots_of") 0 255
    ∷ entries (codes "slot") IsSlot (FirstWrong slot_parts) 0 46 ∷ []

-- the shape of the mode that a table says
abbrev pub SaysShape : Members → ModeShape → Type 0
SaysShape t s = (m : Mode) × IsMode t m × (shape_of m ≡ s)

abbrev pub modes_part : Part
modes_part = entries (codes "mode") SaysShape (FirstWrong mode_parts) 0 247
