-- SUPPORTED_PARAMETERS lists exactly what a device has.
use Rattle.std.proofs.Common.{◌≡◌, ◌≢◌, ◌↔◌, ℕ, zero, suc, ◌<◌, ◌==◌, ◌&&◌, ◌||◌, not, Bool, true, false, cond, List, [], ◌∷◌, ◌++◌, length, map, All, IsTrue, Option, Some, None, Result, Ok, Err, refl, sym, ap, subst, ◌∙◌, arith}
use Rattle.std.specs.Prelude.{filter, nat_le, Contains, is_some, slice_index_or}
use Rattle.std.specs.List.{list_any, list_all, AllByRecursion}
use Rattle.std.specs.Option.{option_map_or}
use Rattle.std.proofs.lemmas.Bool.{eqb-true, eq-eqb}
use Rattle.rdm_frame.specs.declared.nack.Nack.{Nack}
use Rattle.rdm_frame.specs.declared.nack.Nack.TheVariants.{UnknownPid, UnsupportedCommandClass}
use Rattle.rdm_profile.specs.declared.profile.own.ParameterDef.{ParameterDef}
use Rattle.rdm_profile.specs.declared.profile.Profile.{Profile}
use Rattle.rdm_added.specs.Added.{has_makers_pid}
use Rattle.rdm_profile.specs.LeftOut.{optional_pids, is_optional, leaves_out, lacks}
use Rattle.rdm_profile.specs.OwnParameters.{is_addable}
use Rattle.rdm_profile.specs.Profiles.{IsGoodProfile}
use Rattle.rdm_table.specs.declared.kind.Verb.{Verb}
use Rattle.rdm_commands.specs.Commands.Added.{row_here}
use Rattle.rdm_params.specs.Laws.{SupportedExact}
use Rattle.rdm_table.specs.Table.Rows.{Command, Row, table, row_of, row_in, row_or, row_at, added_row, added_rows, description_row, added_pids, is_required, is_left_out, supported_pids, table_pids, with_pid, with_pids, command_in}
use Rattle.rdm_table.specs.Table.Uses.{access}
use Rattle.rdm_commands.proofs.AddedRows.{are_added, IsAdded}
use Rattle.rdm_table.proofs.Bools.{both_true}
use Rattle.rdm_table.proofs.Rows.{found}

never : false ≡ true → ⊥
never e = cc

-- ---- what is in a list

abbrev is_in : ℕ → List ℕ → Bool
is_in pid xs = list_any (λ n. n == pid) xs

either_first : (a b : Bool) → a ≡ true → (a || b) ≡ true
either_first true b e = refl
either_first false b e = absurd (never e)

either_second : (a b : Bool) → b ≡ true → (a || b) ≡ true
either_second true b e = refl
either_second false b e = e

is_at : (xs : List ℕ) (pid k : ℕ) → k < length xs → slice_index_or xs k pid ≡ pid → is_in pid xs ≡ true
is_at [] pid k lt e = absurd (omega (arith, lt))
is_at (x ∷ xs) pid zero lt e = either_first (x == pid) (is_in pid xs) (eq-eqb x pid e)
is_at (x ∷ xs) pid (suc k) lt e = either_second (x == pid) (is_in pid xs) (is_at xs pid k (omega (arith, lt)) e)

is_there : (xs : List ℕ) (pid : ℕ) → Contains xs pid → is_in pid xs ≡ true
is_there xs pid there = is_at xs pid there.0 there.1 there.2

here_or_later : (here : Bool) (x pid : ℕ) (xs : List ℕ) → (x == pid) ≡ here → (is_in pid xs ≡ true → Contains xs pid) → (here || is_in pid xs) ≡ true → Contains (x ∷ xs) pid
here_or_later true x pid xs at later e = (0, omega arith, eqb-true x pid at)
here_or_later false x pid xs at later e = let rest = later e in let lt = rest.1 in (suc rest.0, omega (arith, lt), rest.2)

there_is : (xs : List ℕ) (pid : ℕ) → is_in pid xs ≡ true → Contains xs pid
there_is [] pid e = absurd (never e)
there_is (x ∷ xs) pid e = here_or_later (x == pid) x pid xs refl (there_is xs pid) e

swapped : (a b c : Bool) → (a || (b || c)) ≡ (b || (a || c))
swapped true true c = refl
swapped true false c = refl
swapped false b c = refl

joined : (a b c : Bool) → (a || (b || c)) ≡ ((b || a) || c)
joined true true c = refl
joined true false c = refl
joined false true c = refl
joined false false c = refl

put_at : (before : Bool) (pid n x : ℕ) (xs later : List ℕ) → is_in pid later ≡ ((n == pid) || is_in pid xs) → is_in pid (cond before (n ∷ x ∷ xs) (x ∷ later)) ≡ ((n == pid) || ((x == pid) || is_in pid xs))
put_at true pid n x xs later e = refl
put_at false pid n x xs later e = ap (λ (b : Bool). (x == pid) || b) e ∙ swapped (x == pid) (n == pid) (is_in pid xs)

put_in : (pid n : ℕ) (xs : List ℕ) → is_in pid (with_pid n xs) ≡ ((n == pid) || is_in pid xs)
put_in pid n [] = refl
put_in pid n (x ∷ xs) = put_at (nat_le n x) pid n x xs (with_pid n xs) (put_in pid n xs)

all_in : (pid : ℕ) (ns xs : List ℕ) → is_in pid (with_pids ns xs) ≡ (is_in pid ns || is_in pid xs)
all_in pid [] xs = refl
all_in pid (n ∷ ns) xs = all_in pid ns (with_pid n xs) ∙ ap (λ (b : Bool). is_in pid ns || b) (put_in pid n xs) ∙ joined (is_in pid ns) (n == pid) (is_in pid xs)

cond_in : (keep : Bool) (pid x : ℕ) (xs : List ℕ) → is_in pid (cond keep (x ∷ xs) xs) ≡ cond keep ((x == pid) || is_in pid xs) (is_in pid xs)
cond_in true pid x xs = refl
cond_in false pid x xs = refl

step : (keep at passes found rest : Bool) → (at ≡ true → keep ≡ passes) → rest ≡ (passes && found) → cond keep (at || rest) rest ≡ (passes && (at || found))
step true true passes found rest same e = subst (λ (q : Bool). true ≡ (q && true)) (same refl) refl
step true false passes found rest same e = e
step false true passes found rest same e = e ∙ subst (λ (q : Bool). (q && found) ≡ (q && true)) (same refl) refl
step false false passes found rest same e = e

and_false : (b : Bool) → (b && false) ≡ false
and_false true = refl
and_false false = refl

filter_in : (q : ℕ → Bool) (pid : ℕ) (xs : List ℕ) → is_in pid (filter q xs) ≡ (q pid && is_in pid xs)
filter_in q pid [] = sym (and_false (q pid))
filter_in q pid (x ∷ xs) =
    cond_in (q x) pid x (filter q xs) ∙ step (q x) (x == pid) (q pid) (is_in pid xs) (is_in pid (filter q xs)) (λ (at : (x == pid) ≡ true). ap q (eqb-true x pid at)) (filter_in q pid xs)

-- a number that passes a test isn't among those that fail it
no : (b : Bool) → b ≡ true → not b ≡ true → ⊥
no true e f = never f
no false e f = never e

neither : (a b : Bool) → (a ≡ true → ⊥) → b ≡ false → (a || b) ≡ false
neither true b wrong e = absurd (wrong refl)
neither false b wrong e = e

none_passes : (test : ℕ → Bool) (xs : List ℕ) (n : ℕ) → list_all (λ x. not (test x)) xs ≡ true → test n ≡ true → is_in n xs ≡ false
none_passes test [] n all passes = refl
none_passes test (x ∷ xs) n all passes =
    let parts = both_true (not (test x)) (list_all (λ x. not (test x)) xs) all in
    neither (x == n) (is_in n xs) (λ (at : (x == n) ≡ true). no (test x) (ap test (eqb-true x n at) ∙ passes) parts.0) (none_passes test xs n parts.1 passes)

-- ---- the rows that a device has

abbrev is_known : Bool → Option Row → Bool
is_known is_root None = false
is_known is_root (Some r) = is_root || not r.root_only

abbrev unknown : Result (Unit {0}) Nack
unknown = Err UnknownPid

known_command : (some : Bool) → cond some (Ok tt) (Err UnsupportedCommandClass) ≢ unknown
known_command true e = cc
known_command false e = cc

below_command : (root_only some : Bool) → not root_only ≡ true → cond root_only (Err UnknownPid) (cond some (Ok tt) (Err UnsupportedCommandClass)) ≢ unknown
below_command true some e = absurd (never e)
below_command false some e = known_command some

known_is : (row : Option Row) (is_root : Bool) (verb : Verb) → is_known is_root row ≡ true → access row is_root verb ≢ Err UnknownPid
known_is None is_root verb e = absurd (never e)
known_is (Some r) true verb e = known_command (is_some (command_in (Some r) verb))
known_is (Some r) false verb e = below_command r.root_only (is_some (command_in (Some r) verb)) e

not_below : (root_only some : Bool) → cond root_only (Err UnknownPid) (cond some (Ok tt) (Err UnsupportedCommandClass)) ≢ unknown → not root_only ≡ true
not_below true some wrong = absurd (wrong refl)
not_below false some wrong = refl

is_had : (row : Option Row) (is_root : Bool) (verb : Verb) → access row is_root verb ≢ Err UnknownPid → is_known is_root row ≡ true
is_had None is_root verb wrong = absurd (wrong refl)
is_had (Some r) true verb wrong = refl
is_had (Some r) false verb wrong = not_below r.root_only (is_some (command_in (Some r) verb)) wrong

-- ---- what is listed of the table

-- each of these numbers once
abbrev are_alone : List ℕ → Bool
are_alone [] = true
are_alone (n ∷ ns) = not (is_in n ns) && are_alone ns

abbrev pids_of : List Row → List ℕ
pids_of rows = map (λ (r : Row). r.pid) rows

not_either : (a b : Bool) → (a || b) ≡ false → (a ≡ false) × (b ≡ false)
not_either true b e = absurd (never (sym e))
not_either false b e = (refl, e)

none_in : (rows : List Row) (pid : ℕ) → is_in pid (pids_of rows) ≡ false → row_in rows pid ≡ None
none_in [] pid e = refl
none_in (r ∷ rows) pid e =
    let parts = not_either (r.pid == pid) (is_in pid (pids_of rows)) e in
    ap (λ (here : Bool). cond here (Some r) (row_in rows pid)) parts.0 ∙ none_in rows pid parts.1

map_kept : (keep : Bool) (r : Row) (rows : List Row) → pids_of (cond keep (r ∷ rows) rows) ≡ cond keep (r.pid ∷ pids_of rows) (pids_of rows)
map_kept true r rows = refl
map_kept false r rows = refl

is_not : (b : Bool) → not b ≡ true → b ≡ false
is_not true e = absurd (never e)
is_not false e = refl

kept_or_not : (keep : Bool) → cond keep true false ≡ keep
kept_or_not true = refl
kept_or_not false = refl

kept_either : (keep rest : Bool) → cond keep rest rest ≡ rest
kept_either true rest = refl
kept_either false rest = refl

one_row : (f : Row → Bool) (r : Row) (rows : List Row) (pid : ℕ) (here : Bool) → (r.pid == pid) ≡ here → is_in r.pid (pids_of rows) ≡ false → is_in pid (pids_of (filter f rows)) ≡ option_map_or f (row_in rows pid) false → cond (f r) (here || is_in pid (pids_of (filter f rows))) (is_in pid (pids_of (filter f rows))) ≡ option_map_or f (cond here (Some r) (row_in rows pid)) false
one_row f r rows pid true at alone later =
    let none : row_in rows pid ≡ None = subst (λ (n : ℕ). row_in rows n ≡ None) (eqb-true r.pid pid at) (none_in rows r.pid alone) in
    ap (λ (b : Bool). cond (f r) true b) (later ∙ ap (λ (row : Option Row). option_map_or f row false) none) ∙ kept_or_not (f r)
one_row f r rows pid false at alone later = kept_either (f r) (is_in pid (pids_of (filter f rows))) ∙ later

rows_in : (f : Row → Bool) (rows : List Row) (pid : ℕ) → are_alone (pids_of rows) ≡ true → is_in pid (pids_of (filter f rows)) ≡ option_map_or f (row_in rows pid) false
rows_in f [] pid alone = refl
rows_in f (r ∷ rows) pid alone =
    let parts = both_true (not (is_in r.pid (pids_of rows))) (are_alone (pids_of rows)) alone in
    ap (is_in pid) (map_kept (f r) r (filter f rows))
    ∙ cond_in (f r) pid r.pid (pids_of (filter f rows))
    ∙ one_row f r rows pid (r.pid == pid) refl (is_not (is_in r.pid (pids_of rows)) parts.0) (rows_in f rows pid parts.1)

abbrev is_listed : Bool → Row → Bool
is_listed is_root r = (is_root || not r.root_only) && not (is_required r.pid)

table_alone : are_alone (pids_of table) ≡ true
unfolding table
table_alone = refl

table_is : (is_root : Bool) → table_pids is_root ≡ pids_of (filter (is_listed is_root) table)
unfolding table_pids table
table_is true = refl
table_is false = refl

all_any : (rows : List Row) → AllByRecursion (λ (x : Row). Unit {0}) rows
all_any [] = tt
all_any (x ∷ xs) = (tt, all_any xs)

same_pid : (pid : ℕ) (r : Row) → row_in table pid ≡ Some r → r.pid ≡ pid
same_pid pid r e = (found (λ (x : Row). Unit {0}) table pid r (all_any table) e).1

listed_at : (is_root : Bool) (pid : ℕ) (row : Option Row) → row_in table pid ≡ row → option_map_or (is_listed is_root) row false ≡ (is_known is_root row && not (is_required pid))
listed_at is_root pid None e = refl
listed_at is_root pid (Some r) e =
    ap (λ (n : ℕ). (is_root || not r.root_only) && not (is_required n)) (same_pid pid r e)

table_in : (is_root : Bool) (pid : ℕ) → is_in pid (table_pids is_root) ≡ (is_known is_root (row_of pid) && not (is_required pid))
unfolding row_of
table_in is_root pid =
    ap (is_in pid) (table_is is_root) ∙ rows_in (is_listed is_root) table pid table_alone ∙ listed_at is_root pid (row_in table pid) refl

-- ---- and of the parameters that the maker adds

abbrev own_pids : List ParameterDef → List ℕ
own_pids ds = map (λ (d : ParameterDef). d.pid) ds

-- which can't be those that are required, nor those that can be left out
no_required : list_all (λ pid. not (is_addable pid)) (0x0050 ∷ 0x0051 ∷ 0x0060 ∷ 0x00C0 ∷ 0x00F0 ∷ 0x1000 ∷ []) ≡ true
no_required = refl

no_optional : list_all (λ pid. not (is_addable pid)) optional_pids ≡ true
no_optional = refl

addable_or : (here rest : Bool) (n pid : ℕ) → (n == pid) ≡ here → is_addable n ≡ true → (rest ≡ true → is_addable pid ≡ true) → (here || rest) ≡ true → is_addable pid ≡ true
addable_or true rest n pid at free later e = ap is_addable (sym (eqb-true n pid at)) ∙ free
addable_or false rest n pid at free later e = later e

all_addable : (ds : List ParameterDef) (pid : ℕ) → All (λ d. IsTrue (is_addable d.pid)) ds → is_in pid (own_pids ds) ≡ true → is_addable pid ≡ true
all_addable [] pid all e = absurd (never e)
all_addable (d ∷ ds) pid all e =
    let free : is_addable d.pid ≡ true = all 0 d (omega arith) in
    addable_or (d.pid == pid) (is_in pid (own_pids ds)) d.pid pid refl free (all_addable ds pid (λ k x within. all (suc k) x (omega arith))) e

either_row : (here : Bool) (r : Row) (rest : Option Row) (later : Bool) → is_known true rest ≡ later → is_known true (cond here (Some r) rest) ≡ (here || later)
either_row true r rest later e = refl
either_row false r rest later e = e

own_rows : (ds : List ParameterDef) (pid : ℕ) → is_known true (row_in (map added_row ds) pid) ≡ is_in pid (own_pids ds)
own_rows [] pid = refl
own_rows (d ∷ ds) pid = either_row (d.pid == pid) (added_row d) (row_in (map added_row ds) pid) (is_in pid (own_pids ds)) (own_rows ds pid)

past_description : (makers : Bool) (rows : List Row) (pid : ℕ) → (0x0051 == pid) ≡ false → row_in (cond makers (description_row ∷ []) [] ++ rows) pid ≡ row_in rows pid
past_description true rows pid other = ap (λ (here : Bool). cond here (Some description_row) (row_in rows pid)) other
past_description false rows pid other = refl

own_here : (p : Profile) (pid : ℕ) → (0x0051 == pid) ≡ false → is_known true (row_here p pid) ≡ is_in pid (added_pids p)
unfolding added_rows
own_here p pid other =
    ap (is_known true) (past_description (list_any has_makers_pid p.particulars.own) (map added_row p.particulars.own) pid other) ∙ own_rows p.particulars.own pid

added_below : (p : Profile) (pid : ℕ) (row : Option Row) → row_in (added_rows p) pid ≡ row → is_known false row ≡ false
added_below p pid None e = refl
added_below p pid (Some r) e = ap not (found IsAdded (added_rows p) pid r (are_added p) e).0.root_only

-- ---- the whole

record Facts (p : Profile) (pid : ℕ) : Type 0 where
  pub required : is_in pid (added_pids p) ≡ true → is_required pid ≡ false
  pub optional : is_in pid (added_pids p) ≡ true → is_left_out p pid ≡ false

facts : (p : Profile) (pid : ℕ) → IsGoodProfile p → Facts p pid
facts p pid good = record {
  required = λ e. none_passes is_addable (0x0050 ∷ 0x0051 ∷ 0x0060 ∷ 0x00C0 ∷ 0x00F0 ∷ 0x1000 ∷ []) pid no_required (all_addable p.particulars.own pid good.own.pids.0 e);
  optional = λ e. ap (λ (b : Bool). b && leaves_out p.particulars.without.items pid) (none_passes is_addable optional_pids pid no_optional (all_addable p.particulars.own pid good.own.pids.0 e));
}

not_in : (b : Bool) → (b ≡ true → ⊥) → b ≡ false
not_in true wrong = absurd (wrong refl)
not_in false wrong = refl

absorbed : (b n : Bool) → (b ≡ true → n ≡ true) → (b || n) ≡ n
absorbed true n e = sym (e refl)
absorbed false n e = refl

or_false : (b : Bool) → (b || false) ≡ b
or_false true = refl
or_false false = refl

-- of a parameter that isn't in the table
own_listed : (added required : Bool) (known : Bool) (is_description : Bool) → (added ≡ true → required ≡ false) → (is_description ≡ false → known ≡ added) → (is_description ≡ true → required ≡ true) → added ≡ (known && not required)
own_listed true required known true free same must = absurd (never (sym (free refl) ∙ must refl))
own_listed true required known false free same must = sym (ap (λ (k : Bool). k && not required) (same refl) ∙ ap not (free refl))
own_listed false required known true free same must = sym (ap (λ (r : Bool). known && not r) (must refl) ∙ and_false known)
own_listed false required known false free same must = sym (ap (λ (k : Bool). k && not required) (same refl))

-- of the root and of a sub-device, where the profile doesn't leave it out
at_root : (p : Profile) (pid : ℕ) (row : Option Row) → Facts p pid → (is_in pid (added_pids p) || (is_known true row && not (is_required pid))) ≡ (is_known true (row_or row (row_here p pid)) && not (is_required pid))
at_root p pid (Some r) fs = absorbed (is_in pid (added_pids p)) (not (is_required pid)) (λ e. ap not (fs.required e))
at_root p pid None fs =
    or_false (is_in pid (added_pids p))
    ∙ own_listed (is_in pid (added_pids p)) (is_required pid) (is_known true (row_here p pid)) (0x0051 == pid) fs.required (own_here p pid) (λ e. subst (λ (n : ℕ). is_required n ≡ true) (eqb-true 0x0051 pid e) refl)

at_sub : (p : Profile) (pid : ℕ) (row : Option Row) → (is_known false row && not (is_required pid)) ≡ (is_known false (row_or row (row_here p pid)) && not (is_required pid))
at_sub p pid (Some r) = refl
at_sub p pid None = sym (ap (λ (k : Bool). k && not (is_required pid)) (added_below p pid (row_here p pid) refl))

-- each, where it may be left out
true_false : (left : Bool) → left ≡ true → left ≡ false → ⊥
true_false left e f = never (sym f ∙ e)

with_left : (p : Profile) (pid : ℕ) (is_root left : Bool) → is_left_out p pid ≡ left → Facts p pid → (is_in pid (cond is_root (added_pids p) []) || (not left && (is_known is_root (row_of pid) && not (is_required pid)))) ≡ (is_known is_root (cond left None (row_or (row_of pid) (row_here p pid))) && not (is_required pid))
with_left p pid true true left fs = or_false (is_in pid (added_pids p)) ∙ not_in (is_in pid (added_pids p)) (λ e. true_false (is_left_out p pid) left (fs.optional e))
with_left p pid true false left fs = at_root p pid (row_of pid) fs
with_left p pid false true left fs = refl
with_left p pid false false left fs = at_sub p pid (row_of pid)

is_listed_by : (p : Profile) (is_root : Bool) (pid : ℕ) → Facts p pid → is_in pid (supported_pids p is_root) ≡ (is_known is_root (row_at p pid) && not (is_required pid))
unfolding supported_pids
is_listed_by p is_root pid fs =
    let stays : ℕ → Bool = λ n. not (is_left_out p n) in
    all_in pid (cond is_root (added_pids p) []) (filter stays (table_pids is_root))
    ∙ ap (λ (b : Bool). is_in pid (cond is_root (added_pids p) []) || b) (filter_in stays pid (table_pids is_root) ∙ ap (λ (b : Bool). not (is_left_out p pid) && b) (table_in is_root pid))
    ∙ with_left p pid is_root (is_left_out p pid) refl fs

both : (a b : Bool) → a ≡ true → b ≡ false → (a && not b) ≡ true
both a b e f = ap (λ (x : Bool). x && not b) e ∙ ap not f

pub listed_exactly : SupportedExact
listed_exactly p is_root pid verb good =
    let known : Bool = is_known is_root (row_at p pid) in
    let is = is_listed_by p is_root pid (facts p pid good) in (
      λ there.
          let parts = both_true known (not (is_required pid)) (sym is ∙ is_there (supported_pids p is_root) pid there) in
          (known_is (row_at p pid) is_root verb parts.0, is_not (is_required pid) parts.1),
      λ had. there_is (supported_pids p is_root) pid (is ∙ both known (is_required pid) (is_had (row_at p pid) is_root verb had.0) had.1),
    )
