-- How many slots the data have that words can say.
use Rattle.std.specs.Prelude.{◌≡◌, ℕ, ◌+◌, ◌≤◌, true, List, [], ◌∷◌, length, Option, Some, IfSome, IsSome}
use Rattle.rdm_profile.specs.Forms.{has_length}
use Rattle.rdm_profile.specs.Fields.{width_of}
use Rattle.rdm_table.specs.declared.kind.Verb.{Verb}
use Rattle.rdm_params.specs.Table.Rows.{Row, Command, command_in}
use Rattle.rdm_entry.specs.declared.field.Field.{Field}
use Rattle.rdm_entry.specs.declared.field.Field.TheVariants as fields

-- the least number of slots that a word can say for a field
abbrev pub least_of : Field → ℕ
least_of (fields.Number width) = width_of width
least_of (fields.Named width names) = width_of width
least_of (fields.Signed width) = width_of width
least_of fields.Identifier = 2
least_of fields.Pin = 2
least_of (fields.Text most) = 0
least_of fields.Language = 2

-- the greatest number
abbrev pub most_of : Field → ℕ
most_of (fields.Text most) = most
most_of field = least_of field

-- the least and the greatest number of slots that words can say for fields
abbrev pub least_slots : List Field → ℕ
least_slots [] = 0
least_slots (field ∷ more) = least_of field + least_slots more

abbrev pub most_slots : List Field → ℕ
most_slots [] = 0
most_slots (field ∷ more) = most_of field + most_slots more

-- Data of so many slots can be what words say for these fields.
abbrev pub CanHave : List Field → ℕ → Type 0
CanHave fields n = (least_slots fields ≤ n) × (n ≤ most_slots fields)

-- Where a row of the table has the command, its fields are known, and their least and their greatest number of slots are lengths that
-- the command takes.
abbrev pub Fit : Option Row → Verb → Option (List Field) → Type 0
Fit row verb fields =
    (c : Command) → command_in row verb ≡ Some c
    → IsSome fields × IfSome fields (λ fs. (has_length c.form (least_slots fs) ≡ true) × (has_length c.form (most_slots fs) ≡ true))
