-- The fields of a parameter that a fixture describes. E1.20 section 10.4.2.
use Rattle.std.specs.Prelude.{ℕ, ◌==◌, ◌/◌, ◌%◌, nat_lt, List, [], ◌∷◌, length, slice_index, Option, Some, None, replicate, if◌then◌else◌}
use Rattle.rdm_profile.specs.declared.profile.fields.Width.{Width}
use Rattle.rdm_profile.specs.declared.profile.fields.Width.TheVariants.{One, Two, Four}
use Rattle.rdm_profile.specs.Fields.{width_of}
use Rattle.rdm_entry.specs.declared.field.Field.{Field}
use Rattle.rdm_entry.specs.declared.field.Field.TheVariants as fields

-- the number of a data type, and its width. Table A-15.
abbrev pub number_of_type : ℕ → Option (Field × Width)
number_of_type kind =
    if kind == 3 then Some (fields.Number One, One)
    else (if kind == 4 then Some (fields.Signed One, One)
    else (if kind == 5 then Some (fields.Number Two, Two)
    else (if kind == 6 then Some (fields.Signed Two, Two)
    else (if kind == 7 then Some (fields.Number Four, Four)
    else (if kind == 8 then Some (fields.Signed Four, Four)
    else None)))))

-- so many of them as fill the data
abbrev pub numbers : ℕ → Option (Field × Width) → Option (List Field)
numbers size None = None
numbers size (Some number) =
    if size % width_of number.1 == 0 then Some (replicate (size / width_of number.1) number.0) else None

-- The fields of the data of a SET, by a description, whose third slot is the size of the data, and whose fourth is their type: a text of at
-- most that size, or as many numbers as fill it.
abbrev pub described : List ℕ → Option (List Field)
described description =
    if nat_lt (length description) 4 then None
    else (if slice_index description 3 == 2 then Some (fields.Text (slice_index description 2) ∷ [])
    else numbers (slice_index description 2) (number_of_type (slice_index description 3)))
