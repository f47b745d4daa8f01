-- The number of a name fits into the field that holds it: each number of a table does.
use Rattle.std.proofs.Common.{◌≡◌, ◌≤◌, ℕ, Bool, true, false, ◌&&◌, nat_le, List, [], ◌∷◌, Option, Some, IfSome, cond, find, option_map, refl, arith}
use Rattle.std.proofs.lemmas.Bool.Decides.{nat_tests}
use Rattle.std.specs.List.{list_all}
use Rattle.std.specs.Str.{bytes_eq, str_eq_ignore_ascii_case}
use Rattle.rdm_standard_names.specs.Names.{greatest_of, names_of}
use Rattle.rdm_standard_names.specs.Tables.{number_like, number_of}
use Rattle.rdm_standard_names.specs.declared.kind.NameKind.{NameKind}
use Rattle.rdm_standard_names.specs.declared.kind.NameKind.TheVariants.{Sensors, Units, Prefixes, Categories, Slots, Labels}

abbrev all_fit : ℕ → List (ℕ × List ℕ) → Bool
all_fit most rows = list_all (λ row. nat_le row.0 most) rows

first_fits : (n most : ℕ) (others : Bool) → (nat_le n most && others) ≡ true → n ≤ most
first_fits n most others e = grind (arith, nat_tests)

others_fit : (first others : Bool) → (first && others) ≡ true → others ≡ true
others_fit true others e = e
others_fit false others e = absurd cc

-- of a row that passes, or of what is found among the others
step : (most : ℕ) (passes : Bool) (row : ℕ × List ℕ) (rows : List (ℕ × List ℕ)) (test : ℕ × List ℕ → Bool) → row.0 ≤ most
    → IfSome (option_map (λ r. r.0) (find test rows)) (λ n. n ≤ most)
    → IfSome (option_map (λ r. r.0) (cond passes (Some row) (find test rows))) (λ n. n ≤ most)
step most true row rows test here later = here
step most false row rows test here later = later

found_fits : (most : ℕ) (test : ℕ × List ℕ → Bool) (rows : List (ℕ × List ℕ)) → all_fit most rows ≡ true
    → IfSome (option_map (λ r. r.0) (find test rows)) (λ n. n ≤ most)
found_fits most test [] e = tt
found_fits most test (row ∷ rows) e =
    step most (test row) row rows test (first_fits row.0 most (all_fit most rows) e)
    (found_fits most test rows (others_fit (nat_le row.0 most) (all_fit most rows) e))

table_fits : (kind : NameKind) → all_fit (greatest_of kind) (names_of kind) ≡ true
unfolding names_of
table_fits Sensors = refl
table_fits Units = refl
table_fits Prefixes = refl
table_fits Categories = refl
table_fits Slots = refl
table_fits Labels = refl

pub exactly : (kind : NameKind) (rows : List (ℕ × List ℕ)) (name : List ℕ) (found : Option ℕ) → found ≡ number_of rows name
    → rows ≡ names_of kind → IfSome found (λ n. n ≤ greatest_of kind)
exactly kind rows name found e same =
    rw e (rw same (found_fits (greatest_of kind) (λ row. bytes_eq row.1 name) (names_of kind) (table_fits kind)))

pub alike : (kind : NameKind) (rows : List (ℕ × List ℕ)) (name : List ℕ) (found : Option ℕ) → found ≡ number_like rows name
    → rows ≡ names_of kind → IfSome found (λ n. n ≤ greatest_of kind)
alike kind rows name found e same =
    rw e (rw same (found_fits (greatest_of kind) (λ row. str_eq_ignore_ascii_case row.1 name) (names_of kind) (table_fits kind)))
