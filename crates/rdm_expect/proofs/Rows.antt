-- The names in a list of rows: the first row that has the name is the one that the definition finds.
use Rattle.std.proofs.Common.{◌≡◌, ℕ, Bool, true, false, cond, List, [], ◌∷◌, Option, Some, refl, ap, ◌∙◌, find, map, Bor}
use Rattle.std.specs.Option.{option_map}
use Rattle.std.specs.Str.{bytes_eq}
use Rattle.rdm_expect.specs.Reasons.{code_in}

-- the same, once it is known whether the first row is the one
first_number : {A : Type 0} (number : A → ℕ) (here : Bool) (row : A) (later : Option A) → option_map number (cond here (Some row) later) ≡ cond here (Some (number row)) (option_map number later)
first_number number true row later = refl
first_number number false row later = refl

named_at : {A : Type 0} (number : A → ℕ) (text : A → List ℕ) (rows : List A) (name : List ℕ) → option_map number (find (λ row. bytes_eq name (text row)) rows) ≡ code_in (map (λ row. (number row, text row)) rows) name
named_at number text [] name = refl
named_at number text (row ∷ rows) name =
    first_number number (bytes_eq name (text row)) row (find (λ other. bytes_eq name (text other)) rows) ∙ ap (λ (later : Option ℕ). cond (bytes_eq name (text row)) (Some (number row)) later) (named_at number text rows name)

-- a row of the code: a number, and a name that lies elsewhere
abbrev Row : Type 0
Row = ℕ × Bor (List ℕ)

pub named_found : (rows : List Row) (name : List ℕ) (o : Option Row) → o ≡ find (λ row. bytes_eq name row.1.now) rows → option_map (λ row. row.0) o ≡ code_in (map (λ row. (row.0, row.1.now)) rows) name
named_found rows name o e = ap (λ (p : Option Row). option_map (λ row. row.0) p) e ∙ named_at (λ (row : Row). row.0) (λ (row : Row). row.1.now) rows name
