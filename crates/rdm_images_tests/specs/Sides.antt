-- Two areas by their sides.
use Rattle.std.specs.Prelude.{ℕ, List}
use Rattle.rdm_images.specs.declared.memory.Side.{Side}
use Rattle.rdm_images.specs.declared.memory.Side.TheVariants.{First, Second}

abbrev pub area_of : List ℕ → List ℕ → Side → List ℕ
area_of first second First = first
area_of first second Second = second
