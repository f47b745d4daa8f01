-- The names in a list of rows: the first row that has the name, or the PID, is the one that the definitions find.
use Rattle.std.proofs.Common.{◌≡◌, ◌==◌, ℕ, Bool, true, false, cond, List, [], ◌∷◌, Option, Some, None, refl, ap, ◌∙◌, find, map, Bor}
use Rattle.std.specs.Option.{option_map}
use Rattle.std.specs.Str.{bytes_eq}
use Rattle.rdm_frame.specs.Names.{name_in}
use Rattle.rdm_table.specs.Table.Names.{named_in}

-- the same, once it is known whether the first row is the one
first_number : {A : Type 0} (number : A → ℕ) (here : Bool) (row : A) (later : Option A) → option_map number (cond here (Some row) later) ≡ cond here (Some (number row)) (option_map number later)
first_number number true row later = refl
first_number number false row later = refl

first_text : {A : Type 0} (text : A → List ℕ) (here : Bool) (row : A) (later : Option A) → option_map text (cond here (Some row) later) ≡ cond here (Some (text row)) (option_map text later)
first_text text true row later = refl
first_text text false row later = refl

named_at : {A : Type 0} (number : A → ℕ) (text : A → List ℕ) (rows : List A) (name : List ℕ) → option_map number (find (λ row. bytes_eq name (text row)) rows) ≡ named_in (map (λ row. (number row, text row)) rows) name
named_at number text [] name = refl
named_at number text (row ∷ rows) name =
    first_number number (bytes_eq name (text row)) row (find (λ other. bytes_eq name (text other)) rows) ∙ ap (λ (later : Option ℕ). cond (bytes_eq name (text row)) (Some (number row)) later) (named_at number text rows name)

name_at : {A : Type 0} (number : A → ℕ) (text : A → List ℕ) (rows : List A) (pid : ℕ) → option_map text (find (λ row. pid == number row) rows) ≡ name_in (map (λ row. (number row, text row)) rows) pid
name_at number text [] pid = refl
name_at number text (row ∷ rows) pid =
    first_text text (pid == number row) row (find (λ other. pid == number other) rows) ∙ ap (λ (later : Option (List ℕ)). cond (pid == number row) (Some (text row)) later) (name_at number text rows pid)

-- a row of the code: a PID, and a name that lies elsewhere
abbrev Row : Type 0
Row = ℕ × Bor (List ℕ)

pub named_found : (rows : List Row) (name : List ℕ) (o : Option Row) → o ≡ find (λ row. bytes_eq name row.1.now) rows → option_map (λ row. row.0) o ≡ named_in (map (λ row. (row.0, row.1.now)) rows) name
named_found rows name o e = ap (λ (p : Option Row). option_map (λ row. row.0) p) e ∙ named_at (λ (row : Row). row.0) (λ (row : Row). row.1.now) rows name

pub name_found : (rows : List Row) (pid : ℕ) (o : Option Row) → o ≡ find (λ row. pid == row.0) rows → option_map (λ row. row.1.now) o ≡ name_in (map (λ row. (row.0, row.1.now)) rows) pid
name_found rows pid o e = ap (λ (p : Option Row). option_map (λ row. row.1.now) p) e ∙ name_at (λ (row : Row). row.0) (λ (row : Row). row.1.now) rows pid
