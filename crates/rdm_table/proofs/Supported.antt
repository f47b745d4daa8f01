-- The list of supported parameters.
use Rattle.std.proofs.Common.{◌≡◌, ℕ, ◌+◌, ◌<◌, ◌≤◌, ◌&&◌, not, Bool, true, false, cond, List, [], ◌∷◌, ◌++◌, length, get_or, insert, map, take, drop, refl, sym, ap, ◌∙◌, append_assoc, Option, Some, None}
use Rattle.std.specs.Prelude.{filter, nat_le}
use Rattle.std.specs.List.{list_any}
use Rattle.std.proofs.lemmas.Bool.{le-leb, lt-leb}
use Rattle.std.proofs.lemmas.List.{at_drop_more, at_drop_all, take_more, drop_more}
use Rattle.rdm_profile.specs.declared.profile.own.ParameterDef.{ParameterDef}
use Rattle.rdm_profile.specs.declared.profile.Profile.{Profile}
use Rattle.rdm_added.specs.Added.{has_makers_pid}
use Rattle.rdm_profile.specs.LeftOut.{is_optional, lacks}
use Rattle.rdm_table.specs.Table.Rows.{Row, row_of, row_in, row_or, row_at, added_rows, added_row, added_pids, description_row, is_left_out, supported_pids, table_pids, with_pid, with_pids}

-- ---- a profile with the table alone

and_false : (b : Bool) → (b && false) ≡ false
and_false true = refl
and_false false = refl

all_stay : (pids : List ℕ) → filter (λ pid. not (lacks [] pid)) pids ≡ pids
all_stay [] = refl
all_stay (pid ∷ pids) = rw (and_false (is_optional pid), all_stay pids) refl

abbrev rows_of : List ParameterDef → List Row
rows_of own = cond (list_any has_makers_pid own) (description_row ∷ []) [] ++ map added_row own

none_added : (p : Profile) → p.particulars.own ≡ [] → added_pids p ≡ []
none_added p e = ap (λ (own : List ParameterDef). map (λ (d : ParameterDef). d.pid) own) e

either_none : (is_root : Bool) (pids : List ℕ) → pids ≡ [] → cond is_root pids [] ≡ []
either_none true pids e = e
either_none false pids e = refl

pub plain : (p : Profile) (is_root : Bool) → p.particulars.own ≡ [] → p.particulars.without.items ≡ [] → supported_pids p is_root ≡ table_pids is_root
unfolding supported_pids
plain p is_root no_own all =
    ap (λ (pids : List ℕ). with_pids pids (filter (λ pid. not (is_left_out p pid)) (table_pids is_root))) (either_none is_root (added_pids p) (none_added p no_own)) ∙ ap (λ (left : List ℕ). filter (λ pid. not (lacks left pid)) (table_pids is_root)) all ∙ all_stay (table_pids is_root)

pub row_alone : (row : Option Row) → row_or row None ≡ row
row_alone None = refl
row_alone (Some r) = refl

pub nothing_added : (p : Profile) (pid : ℕ) → p.particulars.own ≡ [] → row_in (added_rows p) pid ≡ None
unfolding added_rows
nothing_added p pid e = ap (λ (own : List ParameterDef). row_in (rows_of own) pid) e

pub table_alone : (p : Profile) (pid : ℕ) → p.particulars.own ≡ [] → p.particulars.without.items ≡ [] → row_at p pid ≡ row_of pid
table_alone p pid no_own all =
    let row : Option Row = row_or (row_of pid) (row_in (added_rows p) pid) in
    ap (λ (left : List ℕ). cond (lacks left pid) None row) all ∙ ap (λ (left : Bool). cond left None row) (and_false (is_optional pid))
    ∙ ap (row_or (row_of pid)) (nothing_added p pid no_own) ∙ row_alone (row_of pid)

-- ---- what stays

next : (left : Bool) (x : ℕ) (kept rest total : List ℕ) → kept ++ cond (not left) (x ∷ rest) rest ≡ total → (left ≡ false → (kept ++ x ∷ []) ++ rest ≡ total) × (left ≡ true → kept ++ rest ≡ total)
next true x kept rest total e = (λ f. absurd cc, λ f. e)
next false x kept rest total e = (λ f. append_assoc kept (x ∷ []) rest ∙ e, λ f. absurd cc)

one : (p : Profile) (kept pids total : List ℕ) (i : ℕ) → i < length pids → kept ++ filter (λ pid. not (is_left_out p pid)) (drop i pids) ≡ total → (is_left_out p (get_or pids i 0) ≡ false → (kept ++ get_or pids i 0 ∷ []) ++ filter (λ pid. not (is_left_out p pid)) (drop (i + 1) pids) ≡ total) × (is_left_out p (get_or pids i 0) ≡ true → kept ++ filter (λ pid. not (is_left_out p pid)) (drop (i + 1) pids) ≡ total)
one p kept pids total i lt e =
    next (is_left_out p (get_or pids i 0)) (get_or pids i 0) kept (filter (λ pid. not (is_left_out p pid)) (drop (i + 1) pids)) total (ap (λ (xs : List ℕ). kept ++ xs) (sym (at_drop_more (filter (λ pid. not (is_left_out p pid))) pids i 0 lt)) ∙ e)

pub stays : (p : Profile) (kept pids total : List ℕ) (i : ℕ) → i < length pids → is_left_out p (get_or pids i 0) ≡ false → kept ++ filter (λ pid. not (is_left_out p pid)) (drop i pids) ≡ total → (kept ++ get_or pids i 0 ∷ []) ++ filter (λ pid. not (is_left_out p pid)) (drop (i + 1) pids) ≡ total
stays p kept pids total i lt left e = (one p kept pids total i lt e).0 left

pub goes : (p : Profile) (kept pids total : List ℕ) (i : ℕ) → i < length pids → is_left_out p (get_or pids i 0) ≡ true → kept ++ filter (λ pid. not (is_left_out p pid)) (drop i pids) ≡ total → kept ++ filter (λ pid. not (is_left_out p pid)) (drop (i + 1) pids) ≡ total
goes p kept pids total i lt left e = (one p kept pids total i lt e).1 left

-- ---- what is put among others

pub one_more : (defs : List ParameterDef) (d : ParameterDef) (now total : List ℕ) (i : ℕ) → i < length defs → with_pids (map (λ d. d.pid) (drop i defs)) now ≡ total → with_pids (map (λ d. d.pid) (drop (i + 1) defs)) (with_pid (get_or defs i d).pid now) ≡ total
one_more defs d now total i lt e = sym (at_drop_more (λ (ds : List ParameterDef). with_pids (map (λ d. d.pid) ds) now) defs i d lt) ∙ e

pub inserted : (pids : List ℕ) (pid n : ℕ) → n ≤ length pids → with_pid pid pids ≡ take n pids ++ pid ∷ drop n pids → insert pids n pid ≡ with_pid pid pids
inserted pids pid n le e = sym e

below : (pid p : ℕ) (ps : List ℕ) (test : Bool) → nat_le pid p ≡ test → test ≡ false → with_pid pid (p ∷ ps) ≡ p ∷ with_pid pid ps
below pid p ps true e f = absurd cc
below pid p ps false e f = rw e refl

at_least : (pid p : ℕ) (ps : List ℕ) (test : Bool) → nat_le pid p ≡ test → test ≡ true → with_pid pid (p ∷ ps) ≡ pid ∷ p ∷ ps
at_least pid p ps true e f = rw e refl
at_least pid p ps false e f = absurd cc

pub before : (pids : List ℕ) (pid i : ℕ) → i < length pids → get_or pids i 0 < pid → with_pid pid pids ≡ take i pids ++ with_pid pid (drop i pids) → with_pid pid pids ≡ take (i + 1) pids ++ with_pid pid (drop (i + 1) pids)
before pids pid i lt less e =
    e ∙ ap (λ (xs : List ℕ). take i pids ++ xs) (at_drop_more (with_pid pid) pids i 0 lt ∙ below pid (get_or pids i 0) (drop (i + 1) pids) (nat_le pid (get_or pids i 0)) refl (lt-leb pid (get_or pids i 0) less)) ∙ sym (ap (λ (xs : List ℕ). xs ++ with_pid pid (drop (i + 1) pids)) (take_more pids i 0 lt) ∙ append_assoc (take i pids) (get_or pids i 0 ∷ []) (with_pid pid (drop (i + 1) pids)))

pub behind : (pids : List ℕ) (pid i : ℕ) → i < length pids → pid ≤ get_or pids i 0 → with_pid pid pids ≡ take i pids ++ with_pid pid (drop i pids) → with_pid pid pids ≡ take i pids ++ pid ∷ drop i pids
behind pids pid i lt le e =
    e ∙ ap (λ (xs : List ℕ). take i pids ++ xs) (at_drop_more (with_pid pid) pids i 0 lt ∙ at_least pid (get_or pids i 0) (drop (i + 1) pids) (nat_le pid (get_or pids i 0)) refl (le-leb pid (get_or pids i 0) le) ∙ ap (λ (xs : List ℕ). pid ∷ xs) (sym (drop_more pids i 0 lt)))

pub past_all : (pids : List ℕ) (pid i : ℕ) → length pids ≤ i → with_pid pid pids ≡ take i pids ++ with_pid pid (drop i pids) → with_pid pid pids ≡ take i pids ++ pid ∷ drop i pids
past_all pids pid i le e = e ∙ ap (λ (xs : List ℕ). take i pids ++ xs) (at_drop_all (with_pid pid) pids i le ∙ sym (at_drop_all (λ (xs : List ℕ). pid ∷ xs) pids i le))
