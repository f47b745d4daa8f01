-- The text of the elements of a picture (XML 1.0, fifth edition, section 3.1).
use Rattle.std.specs.Prelude.{ℕ, ◌≡◌, Bool, true, not, List, [], ◌∷◌, ◌++◌, length, map, ◌==◌, ◌||◌, ◌&&◌, if◌then◌else◌, chars, codes, string_bytes}
use Rattle.std.specs.List.{flat_map, list_any, AllByRecursion}
use Rattle.std.specs.Str.{bytes_eq}
use Rattle.rdm_frame.specs.Digits.{within}
use Rattle.rdm_chart.specs.declared.element.Tag.{Tag}
use Rattle.rdm_chart.specs.declared.element.Tag.TheVariants as tag
use Rattle.rdm_chart.specs.declared.element.Key.{Key}
use Rattle.rdm_chart.specs.declared.element.Key.TheVariants as key
use Rattle.rdm_chart.specs.declared.element.Attribute.{Attribute}
use Rattle.rdm_chart.specs.declared.element.Element.{Element}
use Rattle.rdm_markup.specs.declared.escaping.Place.TheVariants.{Attribute as InAttribute, Content}
use Rattle.rdm_markup.specs.Markup.{in_markup}

-- the name of an element
abbrev pub tag_name : Tag → List ℕ
tag_name tag.Svg = codes "svg"
tag_name tag.Title = codes "title"
tag_name tag.Style = codes "style"
tag_name tag.Rect = codes "rect"
tag_name tag.Path = codes "path"
tag_name tag.Text = codes "text"

-- the name of an attribute
abbrev pub key_name : Key → List ℕ
key_name key.Namespace = codes "xmlns"
key_name key.ViewBox = codes "viewBox"
key_name key.Role = codes "role"
key_name key.LabelledBy = codes "aria-labelledby"
key_name key.Id = codes "id"
key_name key.Class = codes "class"
key_name key.X = codes "x"
key_name key.Y = codes "y"
key_name key.Width = codes "width"
key_name key.Height = codes "height"
key_name key.Radius = codes "rx"
key_name key.Way = codes "d"

-- no name stands twice
abbrev pub is_once : List (List ℕ) → Bool
is_once [] = true
is_once (name ∷ names) = not (list_any (bytes_eq name) names) && is_once names

-- No attribute stands twice in a tag ("Unique Att Spec").
abbrev pub are_once : List Attribute → Bool
are_once attributes = is_once (map (λ a. key_name a.key) attributes)

-- letters, spaces and hyphens alone, which stand in markup as they are
abbrev pub is_letter : ℕ → Bool
is_letter b = within 0x61 b 0x7A || (b == 0x20) || (b == 0x2D)

abbrev pub IsName : List ℕ → Type 0
IsName name = AllByRecursion (λ b. is_letter b ≡ true) name

-- a text as it stands in an element: each character as it is, or as a reference
abbrev pub escaped : List ℕ → List ℕ
escaped text = flat_map (in_markup Content) (chars text)

-- the same in the value of an attribute
abbrev pub escaped_value : List ℕ → List ℕ
escaped_value text = flat_map (in_markup InAttribute) (chars text)

-- an attribute: its name, and its value in quotation marks
unfoldable pub attribute_text : Attribute → List ℕ
attribute_text a = codes " " ++ key_name a.key ++ codes "=\"" ++ escaped_value (string_bytes a.value) ++ codes "\""

abbrev pub attributes_text : List Attribute → List ℕ
attributes_text attributes = flat_map attribute_text attributes

-- the tag that opens an element, but for its end
abbrev pub tag_front : Tag → List Attribute → List ℕ
tag_front tag attributes = codes "<" ++ tag_name tag ++ attributes_text attributes

-- the tag that closes an element
abbrev pub end_tag : Tag → List ℕ
end_tag tag = codes "</" ++ tag_name tag ++ codes ">"

-- the end of the opening tag, the text in the element, and the closing tag; one tag does both if there is no text
abbrev pub tag_rest : Tag → List ℕ → List ℕ
tag_rest tag words = if length words == 0 then codes "/>" else codes ">" ++ escaped words ++ end_tag tag

-- an element, on a line of its own
unfoldable pub element_text : Element → List ℕ
element_text e = tag_front e.tag e.attributes.items ++ tag_rest e.tag (string_bytes e.words) ++ codes "\n"

abbrev pub elements_text : List Element → List ℕ
elements_text elements = flat_map element_text elements
