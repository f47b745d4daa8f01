-- Each name of a kind is read as its number: no two are alike.
use Rattle.std.proofs.Common.{◌≡◌, ℕ, ◌==◌, Bool, true, false, ◌&&◌, List, [], ◌∷◌, Option, Some, None, IfSome, Bor, cond, find, option_map, refl, sym, ap, subst, ◌∙◌}
use Rattle.std.specs.List.{list_all}
use Rattle.std.proofs.lemmas.Bool.Decides.{Decides-eqb}
use Rattle.rdm_standard_names.specs.Names.{are_symbols, name_numbered, names_of, number_named}
use Rattle.rdm_standard_names.specs.declared.kind.NameKind.{NameKind}
use Rattle.rdm_standard_names.specs.declared.kind.NameKind.TheVariants.{Sensors, Units, Prefixes, Categories, Slots, Labels}

abbrev is_number : Option ℕ → ℕ → Bool
is_number (Some m) n = m == n
is_number None n = false

same_number : (found : Option ℕ) (n : ℕ) → is_number found n ≡ true → found ≡ Some n
same_number (Some m) n e = ap Some ((Decides-eqb m n).0 e)
same_number None n e = absurd cc

abbrev all_read : NameKind → List (ℕ × List ℕ) → Bool
all_read kind rows = list_all (λ row. is_number (number_named kind row.1) row.0) rows

first_read : (a b : Bool) → (a && b) ≡ true → a ≡ true
first_read true b e = refl
first_read false b e = absurd cc

others_read : (a b : Bool) → (a && b) ≡ true → b ≡ true
others_read true b e = e
others_read false b e = absurd cc

-- of a row that has the number, or of what is found among the others
step : (kind : NameKind) (has : Bool) (number : ℕ) (row : ℕ × List ℕ) (rows : List (ℕ × List ℕ)) → (row.0 == number) ≡ has
    → is_number (number_named kind row.1) row.0 ≡ true
    → IfSome (option_map (λ r. r.1) (find (λ r. r.0 == number) rows)) (λ name. number_named kind name ≡ Some number)
    → IfSome (option_map (λ r. r.1) (cond has (Some row) (find (λ r. r.0 == number) rows))) (λ name. number_named kind name ≡ Some number)
step kind true number row rows is read later = same_number (number_named kind row.1) row.0 read ∙ ap Some ((Decides-eqb row.0 number).0 is)
step kind false number row rows is read later = later

found_read : (kind : NameKind) (number : ℕ) (rows : List (ℕ × List ℕ)) → all_read kind rows ≡ true
    → IfSome (option_map (λ r. r.1) (find (λ r. r.0 == number) rows)) (λ name. number_named kind name ≡ Some number)
found_read kind number [] e = tt
found_read kind number (row ∷ rows) e =
    step kind (row.0 == number) number row rows refl
    (first_read (is_number (number_named kind row.1) row.0) (all_read kind rows) e)
    (found_read kind number rows (others_read (is_number (number_named kind row.1) row.0) (all_read kind rows) e))

table_is_read : (kind : NameKind) → all_read kind (names_of kind) ≡ true
unfolding names_of are_symbols
table_is_read Sensors = refl
table_is_read Units = refl
table_is_read Prefixes = refl
table_is_read Categories = refl
table_is_read Slots = refl
table_is_read Labels = refl

pub is_read_back : (kind : NameKind) (number : ℕ) → IfSome (name_numbered kind number) (λ name. number_named kind name ≡ Some number)
is_read_back kind number = found_read kind number (names_of kind) (table_is_read kind)

-- the same of words that lie in a table
pub carried : (kind : NameKind) (number : ℕ) (found : Option (Bor (List ℕ))) → option_map (λ name. name.now) found ≡ name_numbered kind number
    → IfSome found (λ name. number_named kind name.now ≡ Some number)
carried kind number None e = tt
carried kind number (Some name) e =
    subst (λ (o : Option (List ℕ)). IfSome o (λ said. number_named kind said ≡ Some number)) (sym e) (is_read_back kind number)
