-- What a fixture tells of itself, field by field.
use Rattle.std.specs.Prelude.{ℕ, ◌==◌, Bool, false, List, [], ◌∷◌, Option, option_map}
use Rattle.std.specs.Str.{bytes_eq}
use Rattle.rdm_compare.specs.declared.field.Field.{Field}
use Rattle.rdm_compare.specs.declared.field.Field.TheVariants as field
use Rattle.rdm_compare.specs.declared.field.Told.{Told}
use Rattle.rdm_compare.specs.declared.field.Told.TheVariants as told
use Rattle.rdm_compare.specs.declared.kept.Kept.{Kept}

abbrev pub a_text : Option (List ℕ) → Option Told
a_text text = option_map (λ (t : List ℕ). told.Text t) text

abbrev pub a_number : Option ℕ → Option Told
a_number number = option_map (λ (n : ℕ). told.Number n) number

-- What a fixture told in a field.
abbrev pub told_in : Field → Kept → Option Told
told_in field.Manufacturer k = a_text k.manufacturer
told_in field.Model k = a_text k.model
told_in field.ModelId k = a_number k.model_id
told_in field.Label k = a_text k.label
told_in field.Software k = a_text k.software
told_in field.SoftwareId k = a_number k.software_id
told_in field.Personality k = a_number k.personality
told_in field.PersonalityName k = a_text k.personality_name
told_in field.Personalities k = a_number k.personalities
told_in field.Address k = a_number k.address
told_in field.Footprint k = a_number k.footprint
told_in field.Hours k = a_number k.hours

-- the fields, in order
abbrev pub fields : List Field
fields =
    field.Manufacturer ∷ field.Model ∷ field.ModelId ∷ field.Label ∷ field.Software ∷ field.SoftwareId ∷ field.Personality
    ∷ field.PersonalityName ∷ field.Personalities ∷ field.Address ∷ field.Footprint ∷ field.Hours ∷ []

-- The two are the same.
abbrev pub same_told : Told → Told → Bool
same_told (told.Text a) (told.Text b) = bytes_eq a b
same_told (told.Number a) (told.Number b) = a == b
same_told (told.Text a) (told.Number b) = false
same_told (told.Number a) (told.Text b) = false
