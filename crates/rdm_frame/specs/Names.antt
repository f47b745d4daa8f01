-- The names of numbers, as the standard lists them in its tables.
use Rattle.std.specs.Prelude.{ℕ, ◌==◌, List, [], ◌∷◌, ◌++◌, Option, Some, None, if◌then◌else◌}

-- the name that stands beside a number in these rows
abbrev pub name_in : List (ℕ × List ℕ) → ℕ → Option (List ℕ)
name_in [] number = None
name_in (row ∷ rows) number = if number == row.0 then Some row.1 else name_in rows number

-- a text as C has it: with a NUL behind it
abbrev pub for_c : List ℕ → List ℕ
for_c text = text ++ 0 ∷ []
