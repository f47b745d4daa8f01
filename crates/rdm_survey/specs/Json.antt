-- A survey as JSON. RFC 8259.
use Rattle.std.specs.Prelude.{ℕ, List, [], ◌∷◌, map, decimal}
use Rattle.json.specs.Json.{Json, null, number as a_number, string, array, object, Members, no_members, member}
use Rattle.json.specs.Print.{print}
use Rattle.json.specs.Token.{Token, key}
use Rattle.json.specs.Tree.{json_tokens}
use Rattle.json.specs.Value.{items_of}
use Rattle.rdm_survey.specs.declared.row.Row.{Row}
use Rattle.rdm_survey.specs.declared.member.Member.{Member}
use Rattle.rdm_survey.specs.declared.partner.Partner.{Partner}
use Rattle.rdm_survey.specs.declared.place.Clash.{Clash}
use Rattle.rdm_survey.specs.Places.{clashes}
use Rattle.rdm_survey.specs.Members.{Value, nothing, number, word, words, members_in, partner_word, told}

-- null for what isn't told, a number, a string, or an array of strings
abbrev pub json_of : Value → Json
json_of nothing = null
json_of (number n) = a_number (decimal n)
json_of (word w) = string w
json_of (words list) = array (items_of (map string list))

abbrev pub members_json : List (List ℕ × Value) → Members
members_json [] = no_members
members_json (m ∷ more) = member m.0 (json_of m.1) (members_json more)

unfoldable pub row_json : List Clash → Row → Json
row_json list row = object (members_json (members_in list row))

-- An array with an object for each fixture, in order.
abbrev pub survey_json : List Row → Json
survey_json rows = array (items_of (map (row_json (clashes rows)) rows))

-- its text, with no spaces in it
abbrev pub json_text : List Row → List ℕ
json_text rows = print (json_tokens (survey_json rows))

-- what the code writes, as tokens: the object of a row, a key and what stands under it, and what a fixture clashes with
unfoldable pub row_tokens : List Clash → Row → List Token
row_tokens list row = json_tokens (object (members_json (members_in list row)))

unfoldable pub cell_tokens : Member → List Token
cell_tokens m = key m.key.now ∷ json_tokens (json_of (told m.cell))

unfoldable pub other_token : Partner → Token
other_token other = Token.string (partner_word other)
