-- What the text of a picture is: a document of XML in which no arrows stand but those that are drawn.
use Rattle.std.specs.Prelude.{◌≡◌, ℕ, true, List, [], ◌∷◌, ◌++◌, codes, string_bytes}
use Rattle.std.specs.List.{flat_map}
use Rattle.rdm_chart.specs.declared.arrow.Kind.{Kind}
use Rattle.rdm_chart.specs.declared.element.Attribute.{Attribute}
use Rattle.rdm_chart.specs.declared.element.Element.{Element as Drawn}
use Rattle.rdm_chart.specs.declared.element.Key.TheVariants.{Class}
use Rattle.rdm_chart.specs.declared.element.Tag.{Tag}
use Rattle.rdm_chart.specs.declared.element.Tag.TheVariants as tag
use Rattle.rdm_markup.specs.declared.escaping.Place.TheVariants.{Content}
use Rattle.rdm_markup.specs.Markup.{in_markup}
use Rattle.rdm_chart.specs.Elements.{are_once, escaped_value, tag_front, end_tag}
use Rattle.rdm_chart.specs.Reading.{arrows_in, kind_named}

-- An element is drawn so: of its kinds if it is a path, whose class comes first and which has no text, and else as no arrow.
abbrev pub LooksSo : List Kind → Tag → List Attribute → List ℕ → Type 0
LooksSo kinds tag.Path [] words = ⊥
LooksSo kinds tag.Path (a ∷ more) words = (a.key ≡ Class) × (kinds ≡ kind_named (escaped_value (string_bytes a.value))) × (words ≡ [])
LooksSo kinds tag.Svg attributes words = kinds ≡ []
LooksSo kinds tag.Title attributes words = kinds ≡ []
LooksSo kinds tag.Style attributes words = kinds ≡ []
LooksSo kinds tag.Rect attributes words = kinds ≡ []
LooksSo kinds tag.Text attributes words = kinds ≡ []

-- The same, and no attribute stands twice in it.
abbrev pub IsDrawnAs : List Kind → Drawn → Type 0
IsDrawnAs kinds e = (are_once e.attributes.items ≡ true) × LooksSo kinds e.tag e.attributes.items (string_bytes e.words)

-- ---- well-formed documents (XML 1.0, fifth edition, section 3.1)

-- What may stand in an element: nothing; a text in which each character is itself or a reference; an element, which is closed by
-- the name that opened it; an element of one tag; and what follows. Attributes are quoted, their values stand like a text, and none stands
-- twice in a tag.
pub data IsContent : List ℕ → Type 0 where
  Nothing : IsContent []
  Words : (text rest : List ℕ) → IsContent rest → IsContent (flat_map (in_markup Content) text ++ rest)
  Element : (tag : Tag) → (attributes : List Attribute) → are_once attributes ≡ true → (content rest : List ℕ)
      → IsContent content → IsContent rest → IsContent (tag_front tag attributes ++ (codes ">" ++ (content ++ (end_tag tag ++ rest))))
  Empty : (tag : Tag) → (attributes : List Attribute) → are_once attributes ≡ true → (rest : List ℕ)
      → IsContent rest → IsContent (tag_front tag attributes ++ (codes "/>" ++ rest))

-- A document: one element, a picture of SVG.
pub record IsDocument (text : List ℕ) : Type 0 where
  pub attributes : List Attribute
  pub once : are_once attributes ≡ true
  pub content : List ℕ
  pub well_formed : IsContent content
  pub whole : text ≡ tag_front tag.Svg attributes ++ (codes ">" ++ (content ++ (end_tag tag.Svg ++ codes "\n")))

-- ---- a document that is being written

-- A text is followed by elements, and these have arrows of these kinds: whatever follows, it goes on a document, and its arrows stand
-- behind.
pub record AreDrawn (kinds : List Kind) (old new : List ℕ) : Type 0 where
  pub content : List ℕ
  pub text : new ≡ old ++ content
  pub well_formed : (rest : List ℕ) → IsContent rest → IsContent (content ++ rest)
  pub arrows : (rest : List ℕ) → arrows_in (content ++ rest) ≡ kinds ++ arrows_in rest
