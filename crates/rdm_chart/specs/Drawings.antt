-- The arrows of a chart while it is being drawn.
use Rattle.std.specs.Prelude.{◌≡◌, List, [], ◌∷◌, ◌++◌, map}
use Rattle.rdm_chart.specs.declared.arrow.Kind.{Kind}
use Rattle.rdm_chart.specs.declared.arrow.Kind.TheVariants as kind
use Rattle.rdm_chart.specs.declared.arrow.Passage.{Passage}
use Rattle.rdm_chart.specs.declared.arrow.Passage.TheVariants as passage
use Rattle.rdm_chart.specs.declared.arrow.Shaft.{Shaft}
use Rattle.rdm_chart.specs.declared.drawing.Drawing.{Drawing}

-- how an arrow looks, by what becomes of its message
abbrev pub kind_of_passage : Passage → Kind
kind_of_passage passage.Whole = kind.Whole
kind_of_passage passage.Altered = kind.Altered
kind_of_passage passage.Lost = kind.Lost
kind_of_passage passage.Refused = kind.Lost
kind_of_passage passage.Negative = kind.Negative

abbrev pub kinds_of_shafts : List Shaft → List Kind
kinds_of_shafts shafts = map (λ shaft. shaft.kind) shafts

abbrev pub kinds_drawn : Drawing → List Kind
kinds_drawn drawing = kinds_of_shafts drawing.arrows.items

-- no arrow is drawn, and the same transaction is under way
abbrev pub IsStill : Drawing → Drawing → Type 0
IsStill old new = (new.arrows ≡ old.arrows) × (new.fault ≡ old.fault)

-- one arrow of this kind has been drawn, and the same transaction is under way
abbrev pub IsOneMore : Kind → Drawing → Drawing → Type 0
IsOneMore kind old new = (kinds_drawn new ≡ kinds_drawn old ++ kind ∷ []) × (new.fault ≡ old.fault)
