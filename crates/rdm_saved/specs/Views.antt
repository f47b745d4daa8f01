-- The numbers of the root that last, as a map by keys.
use Rattle.std.specs.Prelude.{List, [], ◌∷◌}
use Rattle.rdm_added.specs.Map.{Entry, entry}
use Rattle.rdm_profile.specs.Values.{word_slots, long_slots}
use Rattle.rdm_saved.specs.declared.carrying.numbers.Numbers.{Numbers}

abbrev pub number_entries : Numbers → List Entry
number_entries n =
    entry 0x00B0 0 (word_slots n.language)
    ∷ entry 0x0400 0 (long_slots n.device_hours)
    ∷ entry 0x0405 0 (long_slots n.power_cycles)
    ∷ entry 0x0500 0 (n.display_invert ∷ [])
    ∷ entry 0x0501 0 (n.display_level ∷ [])
    ∷ entry 0x0600 0 (n.pan_invert ∷ [])
    ∷ entry 0x0601 0 (n.tilt_invert ∷ [])
    ∷ entry 0x0602 0 (n.pan_tilt_swap ∷ [])
    ∷ []
