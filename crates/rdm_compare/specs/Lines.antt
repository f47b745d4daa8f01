-- How a difference is said: in a line.
use Rattle.std.specs.Prelude.{ℕ, ◌-◌, ◌==◌, nat_lt, List, [], ◌∷◌, ◌++◌, codes, decimal, Option, Some, None, if◌then◌else◌}
use Rattle.rdm_frame.specs.declared.uid.Uid.{Uid}
use Rattle.rdm_frame.specs.UidText.{uid_text}
use Rattle.rdm_survey.specs.Members.{id_word, long_id_word}
use Rattle.rdm_survey.specs.Shown.{shown}
use Rattle.rdm_compare.specs.declared.difference.Difference.{Difference}
use Rattle.rdm_compare.specs.declared.difference.Difference.TheVariants.{Gone, New, Changed}
use Rattle.rdm_compare.specs.declared.field.Field.{Field}
use Rattle.rdm_compare.specs.declared.field.Field.TheVariants as field
use Rattle.rdm_compare.specs.declared.field.Told.{Told}
use Rattle.rdm_compare.specs.declared.field.Told.TheVariants as told

-- what a field is called
abbrev pub name_of : Field → List ℕ
name_of field.Manufacturer = codes "manufacturer"
name_of field.Model = codes "model"
name_of field.ModelId = codes "model ID"
name_of field.Label = codes "label"
name_of field.Software = codes "software"
name_of field.SoftwareId = codes "software ID"
name_of field.Personality = codes "personality"
name_of field.PersonalityName = codes "personality name"
name_of field.Personalities = codes "personalities"
name_of field.Address = codes "address"
name_of field.Footprint = codes "footprint"
name_of field.Hours = codes "hours"

-- a number: an ID in hexadecimal digits, another in decimal ones
abbrev pub number_word : Field → ℕ → List ℕ
number_word field.ModelId n = id_word n
number_word field.SoftwareId n = long_id_word n
number_word _ n = decimal n

-- a text stands in quotes
abbrev pub quoted : List ℕ → List ℕ
quoted text = 0x22 ∷ shown text ++ 0x22 ∷ []

abbrev pub told_word : Field → Told → List ℕ
told_word f (told.Text text) = quoted text
told_word f (told.Number n) = number_word f n

-- `7FF0:00000001`, or `7FF0:00000001 sub-device 2`
unfoldable pub part_word : Uid → ℕ → List ℕ
part_word uid sub = uid_text uid ++ (if sub == 0 then [] else codes " sub-device " ++ decimal sub)

unfoldable pub model_word : Option (List ℕ) → List ℕ
model_word None = []
model_word (Some model) = codes ": " ++ quoted model

-- ` address: `
abbrev pub name_words : Field → List ℕ
name_words f = 0x20 ∷ name_of f ++ codes ": "

-- `1 then, 5 now`
abbrev pub both_words : Field → Told → Told → List ℕ
both_words f was is = told_word f was ++ codes " then, " ++ told_word f is ++ codes " now"

abbrev pub change_words : Field → Told → Told → List ℕ
change_words f was is = name_words f ++ both_words f was is

abbrev pub hours_word : ℕ → List ℕ
hours_word n = if n == 1 then codes " hour more" else codes " hours more"

-- ` has run 20 hours more`
abbrev pub more_hours : ℕ → List ℕ
more_hours n = codes " has run " ++ decimal n ++ hours_word n

-- by how many hours are more, if they are
abbrev pub hours_more : Field → Told → Told → Option ℕ
hours_more field.Hours (told.Number was) (told.Number is) = if nat_lt was is then Some (is - was) else None
hours_more f was is = None

abbrev pub told_words : Field → Told → Told → Option ℕ → List ℕ
told_words f was is (Some n) = more_hours n
told_words f was is None = change_words f was is

-- Hours that have grown are told by how many they are more.
unfoldable pub changed_words : Field → Told → Told → List ℕ
changed_words f was is = told_words f was is (hours_more f was is)

abbrev pub difference_words : Difference → List ℕ
difference_words (Gone uid sub) = part_word uid sub ++ codes " is gone"
difference_words (New uid sub model) = part_word uid sub ++ codes " is new" ++ model_word model
difference_words (Changed uid sub f was is) = part_word uid sub ++ changed_words f was is

-- The line of a difference.
abbrev pub difference_line : Difference → List ℕ
difference_line d = difference_words d ++ 0x0A ∷ []
