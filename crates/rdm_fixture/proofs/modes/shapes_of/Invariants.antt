use Rattle.std.proofs.Common.{◌≡◌, map, take}
use Rattle.arrayvec.specs.ArrayVec.{array_vec_len}
use Rattle.rdm_profile.specs.Modes.{shape_of}
use Rattle.rdm_fixture.proofs.modes.shapes_of.Given as goal

-- those before this one stand in the list
abbrev pub invariant-loop-mode : goal.invariant-loop-mode
invariant-loop-mode l =
    (l.shapes.items ≡ map shape_of (take l.mode-index l.modes)) × (array_vec_len l.shapes ≡ l.mode-index)
