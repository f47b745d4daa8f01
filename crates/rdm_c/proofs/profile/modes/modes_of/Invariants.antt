use Rattle.std.proofs.Common.{◌≡◌, length, map, take}
use Rattle.rdm_c.specs.Modes.{mode_in}
use Rattle.rdm_c.proofs.profile.modes.modes_of.Given as goal

-- those before this one stand in the list
abbrev pub invariant-loop-mode : goal.invariant-loop-mode
invariant-loop-mode l =
    (l.made ≡ map (mode_in l.slots) (take l.mode-index l.modes)) × (length l.made ≡ l.mode-index)
