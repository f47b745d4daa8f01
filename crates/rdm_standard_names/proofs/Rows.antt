-- The first row that passes a test, in a list of rows and in what the rows say.
use Rattle.std.proofs.Common.{◌≡◌, ℕ, Bool, true, false, List, [], ◌∷◌, ◌==◌, Option, Some, map, find, option_map, Bor, refl, ap, ◌∙◌, cond}
use Rattle.std.specs.Str.{bytes_eq, str_eq_ignore_ascii_case}
use Rattle.rdm_standard_names.specs.Names.{name_numbered, names_of}
use Rattle.rdm_standard_names.specs.Tables.{name_of, number_of, number_like, rows_of}
use Rattle.rdm_standard_names.specs.declared.kind.NameKind.{NameKind}
use Rattle.rdm_standard_names.specs.declared.table.Table.{Table}

-- the numbers of the rows, and of what they say
abbrev pub number_of_row : Option (ℕ × Bor (List ℕ)) → Option ℕ
number_of_row found = option_map (λ (r : ℕ × Bor (List ℕ)). r.0) found

abbrev pub number_of_said : Option (ℕ × List ℕ) → Option ℕ
number_of_said found = option_map (λ (r : ℕ × List ℕ). r.0) found

-- of a row that passes, or of what is found among the others
step : (passes : Bool) (row : ℕ × Bor (List ℕ)) (a : Option (ℕ × Bor (List ℕ))) (b : Option (ℕ × List ℕ))
    → number_of_row a ≡ number_of_said b
    → number_of_row (cond passes (Some row) a) ≡ number_of_said (cond passes (Some (row.0, row.1.now)) b)
step true row a b e = refl
step false row a b e = e

-- searching what the rows say gives the number of the row that is found
pub found_in_rows : (test : List ℕ → Bool) (rows : List (ℕ × Bor (List ℕ)))
    → number_of_row (find (λ r. test r.1.now) rows) ≡ number_of_said (find (λ r. test r.1) (map (λ r. (r.0, r.1.now)) rows))
found_in_rows test [] = refl
found_in_rows test (row ∷ rows) = step (test row.1.now) row _ _ (found_in_rows test rows)

pub found_exactly : (table : Table) (name : List ℕ)
    → number_of_row (find (λ r. bytes_eq r.1.now name) table.0.now) ≡ number_of (rows_of table) name
found_exactly table name = found_in_rows (λ text. bytes_eq text name) table.0.now

pub found_alike : (table : Table) (name : List ℕ)
    → number_of_row (find (λ r. str_eq_ignore_ascii_case r.1.now name) table.0.now) ≡ number_like (rows_of table) name
found_alike table name = found_in_rows (λ text. str_eq_ignore_ascii_case text name) table.0.now

-- the words of the rows, and of what they say
abbrev pub words_of_row : Option (ℕ × Bor (List ℕ)) → Option (List ℕ)
words_of_row found = option_map (λ (r : ℕ × Bor (List ℕ)). r.1.now) found

abbrev pub words_of_said : Option (ℕ × List ℕ) → Option (List ℕ)
words_of_said found = option_map (λ (r : ℕ × List ℕ). r.1) found

words_step : (passes : Bool) (row : ℕ × Bor (List ℕ)) (a : Option (ℕ × Bor (List ℕ))) (b : Option (ℕ × List ℕ))
    → words_of_row a ≡ words_of_said b
    → words_of_row (cond passes (Some row) a) ≡ words_of_said (cond passes (Some (row.0, row.1.now)) b)
words_step true row a b e = refl
words_step false row a b e = e

pub named_in_rows : (number : ℕ) (rows : List (ℕ × Bor (List ℕ)))
    → words_of_row (find (λ r. r.0 == number) rows) ≡ words_of_said (find (λ r. r.0 == number) (map (λ r. (r.0, r.1.now)) rows))
named_in_rows number [] = refl
named_in_rows number (row ∷ rows) = words_step (row.0 == number) row _ _ (named_in_rows number rows)

-- the words that a table has for a number are the name of that number
pub named_row : (table : Table) (kind : NameKind) (number : ℕ) (words : Option (List ℕ)) → rows_of table ≡ names_of kind
    → words ≡ name_of table number → words ≡ name_numbered kind number
named_row table kind number words same e =
    e ∙ named_in_rows number table.0.now ∙ ap (λ (rows : List (ℕ × List ℕ)). words_of_said (find (λ r. r.0 == number) rows)) same
