-- What sensors measure, by the tables of the standard. Symbols beyond ASCII are in UTF-8.
use Rattle.std.specs.Prelude.{ℕ, ◌==◌, List, find, Option}
use Rattle.std.specs.Option.{option_map}
use Rattle.rdm_standard_names.specs.Names.{prefixes, sensor_types, units}

-- the name in the first row with a number
abbrev pub named : List (ℕ × List ℕ) → ℕ → Option (List ℕ)
named rows number = option_map (λ row. row.1) (find (λ row. row.0 == number) rows)

-- what a sensor measures
unfoldable pub sensor_type : ℕ → Option (List ℕ)
sensor_type number = named sensor_types number

-- the symbol of a unit
unfoldable pub unit_symbol : ℕ → Option (List ℕ)
unit_symbol number = named units number

-- the symbol of a prefix
unfoldable pub prefix_symbol : ℕ → Option (List ℕ)
prefix_symbol number = named prefixes number
