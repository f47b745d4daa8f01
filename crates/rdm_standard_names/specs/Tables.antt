-- What a table says of a number, and of a name.
use Rattle.std.specs.Prelude.{ℕ, ◌==◌, Bool, List, Option, find, map}
use Rattle.std.specs.List.{list_any}
use Rattle.std.specs.Option.{option_map}
use Rattle.std.specs.Str.{bytes_eq, str_eq_ignore_ascii_case}
use Rattle.rdm_standard_names.specs.declared.table.Table.{Table}

-- the words of the first row with this number
abbrev pub name_of : Table → ℕ → Option (List ℕ)
name_of table number = option_map (λ row. row.1.now) (find (λ row. row.0 == number) table.0.now)

-- the table has a name for this number
abbrev pub has_name : Table → ℕ → Bool
has_name table number = list_any (λ row. row.0 == number) table.0.now

-- the rows of a table
abbrev pub rows_of : Table → List (ℕ × List ℕ)
rows_of table = map (λ row. (row.0, row.1.now)) table.0.now

-- the number of the first row with this name, letter for letter
abbrev pub number_of : List (ℕ × List ℕ) → List ℕ → Option ℕ
number_of rows name = option_map (λ row. row.0) (find (λ row. bytes_eq row.1 name) rows)

-- the number of the first row with this name, in upper or lower case
abbrev pub number_like : List (ℕ × List ℕ) → List ℕ → Option ℕ
number_like rows name = option_map (λ row. row.0) (find (λ row. str_eq_ignore_ascii_case row.1 name) rows)
