-- A survey as it is kept in a file. RFC 8259.
use Rattle.std.specs.Prelude.{ℕ, List, [], ◌∷◌, ◌++◌, map, codes, decimal, Option, Some, None}
use Rattle.std.specs.List.{flat_map}
use Rattle.json.specs.Json.{Json, number as a_number, string, array, object, Members, no_members, member}
use Rattle.json.specs.Print.{print}
use Rattle.json.specs.Token.{Token, key}
use Rattle.json.specs.Tree.{json_tokens}
use Rattle.json.specs.Value.{items_of}
use Rattle.rdm_frame.specs.declared.uid.Uid.{Uid}
use Rattle.rdm_frame.specs.UidText.{uid_text}
use Rattle.rdm_survey.specs.declared.row.SubDevice.{SubDevice}
use Rattle.rdm_survey.specs.Shown.{shown}
use Rattle.rdm_compare.specs.declared.field.Field.{Field}
use Rattle.rdm_compare.specs.declared.field.Field.TheVariants as field
use Rattle.rdm_compare.specs.declared.field.Told.{Told}
use Rattle.rdm_compare.specs.declared.field.Told.TheVariants as told
use Rattle.rdm_compare.specs.declared.kept.Kept.{Kept}
use Rattle.rdm_compare.specs.Fields.{fields, told_in}
use Rattle.rdm_compare.specs.Lines.{number_word}

-- the key of a field
abbrev pub key_of : Field → List ℕ
key_of field.Manufacturer = codes "manufacturer"
key_of field.Model = codes "model"
key_of field.ModelId = codes "model_id"
key_of field.Label = codes "label"
key_of field.Software = codes "software"
key_of field.SoftwareId = codes "software_id"
key_of field.Personality = codes "personality"
key_of field.PersonalityName = codes "personality_name"
key_of field.Personalities = codes "personalities"
key_of field.Address = codes "address"
key_of field.Footprint = codes "footprint"
key_of field.Hours = codes "hours"

-- a number; that of an ID is a string, with hexadecimal digits
abbrev pub number_json : Field → ℕ → Json
number_json field.ModelId n = string (number_word field.ModelId n)
number_json field.SoftwareId n = string (number_word field.SoftwareId n)
number_json _ n = a_number (decimal n)

abbrev pub told_json : Field → Told → Json
told_json f (told.Text text) = string (shown text)
told_json f (told.Number n) = number_json f n

-- A field that wasn't told isn't there.
abbrev pub told_members : Field → Option Told → List (List ℕ × Json)
told_members f None = []
told_members f (Some t) = (key_of f, told_json f t) ∷ []

unfoldable pub field_members : Kept → Field → List (List ℕ × Json)
field_members k f = told_members f (told_in f k)

abbrev pub members_json : List (List ℕ × Json) → Members
members_json [] = no_members
members_json (m ∷ more) = member m.0 m.1 (members_json more)

abbrev pub number_member : List ℕ → ℕ → List ℕ × Json
number_member name n = (name, a_number (decimal n))

abbrev pub address_members : Option ℕ → List (List ℕ × Json)
address_members None = []
address_members (Some address) = number_member (codes "address") address ∷ []

abbrev pub sub_members : SubDevice → List (List ℕ × Json)
sub_members s =
    number_member (codes "number") s.number ∷ address_members s.address ++ number_member (codes "footprint") s.footprint ∷ []

unfoldable pub sub_json : SubDevice → Json
sub_json s = object (members_json (sub_members s))

unfoldable pub subs_json : List SubDevice → Json
subs_json subs = array (items_of (map sub_json subs))

abbrev pub subs_member : List SubDevice → List ℕ × Json
subs_member subs = (codes "sub_devices", subs_json subs)

abbrev pub uid_member : Uid → List ℕ × Json
uid_member uid = (codes "uid", string (uid_text uid))

-- what it told, field by field
unfoldable pub field_list : Kept → List (List ℕ × Json)
field_list k = flat_map (field_members k) fields

-- The members of a fixture: its UID, what it told, and its sub-devices.
abbrev pub kept_members : Kept → List (List ℕ × Json)
kept_members k = uid_member k.uid ∷ field_list k ++ subs_member k.sub_devices ∷ []

unfoldable pub kept_json : Kept → Json
kept_json k = object (members_json (kept_members k))

unfoldable pub fixtures_json : List Kept → Json
fixtures_json list = array (items_of (map kept_json list))

abbrev pub format_member : List ℕ × Json
format_member = number_member (codes "format") 1

abbrev pub fixtures_member : List Kept → List ℕ × Json
fixtures_member list = (codes "fixtures", fixtures_json list)

-- The document: the version of its format, and an object for each fixture, in order.
abbrev pub saved_json : List Kept → Json
saved_json list = object (members_json (format_member ∷ fixtures_member list ∷ []))

-- its text, with no spaces in it
abbrev pub saved_text : List Kept → List ℕ
saved_text list = print (json_tokens (saved_json list))

-- what the code writes, as tokens: a key and what stands under it, and an object
unfoldable pub member_tokens : List ℕ × Json → List Token
member_tokens m = key m.0 ∷ json_tokens m.1

unfoldable pub members_tokens : List (List ℕ × Json) → List Token
members_tokens list = flat_map member_tokens list

unfoldable pub value_tokens : Json → List Token
value_tokens j = json_tokens j
