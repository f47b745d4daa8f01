-- The arrows that a reader finds in the text of a picture: a path is an arrow if its class says so.
use Rattle.std.specs.Prelude.{ℕ, Bool, ◌==◌, if◌then◌else◌, List, [], ◌∷◌, ◌++◌, length, take, drop, codes}
use Rattle.std.specs.List.{list_any, slice_split}
use Rattle.std.specs.Str.{bytes_eq}
use Rattle.rdm_chart.specs.declared.arrow.Kind.{Kind}
use Rattle.rdm_chart.specs.declared.arrow.Kind.TheVariants.{Whole, Altered, Lost, Negative}

-- The arrow that a class is of, if it is one of an arrow. A class is a list of names with spaces between (SVG 1.1, section 6.12).
abbrev pub kind_among : List (List ℕ) → List Kind
kind_among names =
    if list_any (bytes_eq (codes "arrow")) names
    then
    (if list_any (bytes_eq (codes "lost")) names then Lost
    else if list_any (bytes_eq (codes "altered")) names then Altered
    else if list_any (bytes_eq (codes "negative")) names then Negative
    else Whole) ∷ []
    else []

abbrev pub kind_named : List ℕ → List Kind
kind_named class = kind_among (slice_split (λ b. b == 0x20) class)

-- a text begins with these bytes
abbrev pub begins : List ℕ → List ℕ → Bool
begins front text = bytes_eq (take (length front) text) front

-- what stands in front of the first of these bytes
abbrev pub up_to : ℕ → List ℕ → List ℕ
up_to end [] = []
up_to end (b ∷ text) = if b == end then [] else b ∷ up_to end text

-- The class in a tag whose name, attributes and end these are: what stands in quotation marks behind ` class=`, or nothing.
abbrev pub class_in : List ℕ → List ℕ
class_in [] = []
class_in (b ∷ text) =
    if b == 0x3E then []
    else if begins (codes " class=\"") (b ∷ text) then up_to 0x22 (drop 7 text)
    else class_in text

-- the arrow whose tag begins here, behind its `<`, if it is one
abbrev pub arrow_begun : List ℕ → List Kind
arrow_begun text = if begins (codes "path") text then kind_named (class_in text) else []

-- The arrows of a document, in the order in which they stand.
abbrev pub arrows_in : List ℕ → List Kind
arrows_in [] = []
arrows_in (b ∷ text) = (if b == 0x3C then arrow_begun text else []) ++ arrows_in text
