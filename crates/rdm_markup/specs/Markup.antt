-- How a text stands in a document of XML (XML 1.0, fifth edition).
use Rattle.std.specs.Prelude.{ℕ, ◌≢◌, Bool, List, ◌==◌, ◌||◌, nat_lt, if◌then◌else◌, codes, encode_utf8}
use Rattle.rdm_markup.specs.declared.escaping.Place.{Place}
use Rattle.rdm_markup.specs.declared.escaping.Place.TheVariants as place

-- Whether a character of Unicode can't be read from XML: it has no place for controls, but for tab, LF and CR, and for two that aren't
-- characters (section 2.2).
abbrev pub is_unfit : ℕ → Bool
is_unfit c = nat_lt c 0x20 || (c == 0xFFFE) || (c == 0xFFFF)

-- A tab or an LF is read as it is from the content of an element, but as a space from an attribute, unless it is a reference there
-- (section 3.3.3).
abbrev pub space_in : Place → ℕ → List ℕ → List ℕ
space_in place.Content c reference = encode_utf8 c
space_in place.Attribute c reference = reference

-- The bytes of a character: a reference if it would mean something as markup (section 2.4), or if it is a CR, which would be read as an LF
-- (section 2.11); U+FFFD for one that can't be read; and else itself in UTF-8.
unfoldable pub in_markup : Place → ℕ → List ℕ
in_markup p c =
    if c == 0x26 then codes "&amp;"
    else if c == 0x3C then codes "&lt;"
    else if c == 0x3E then codes "&gt;"
    else if c == 0x22 then codes "&quot;"
    else if c == 0x0D then codes "&#13;"
    else if c == 0x09 then space_in p 0x09 (codes "&#9;")
    else if c == 0x0A then space_in p 0x0A (codes "&#10;")
    else if is_unfit c then encode_utf8 0xFFFD
    else encode_utf8 c

-- A byte that neither begins nor ends a tag, nor the value of an attribute.
abbrev pub IsPlain : ℕ → Type 0
IsPlain byte = (byte ≢ 0x3C) × (byte ≢ 0x3E) × (byte ≢ 0x22)
