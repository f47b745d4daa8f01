-- The rows that a profile adds to the table, and the row of a PID at a profile.
use Rattle.std.proofs.Common.{◌≡◌, ℕ, ◌==◌, ◌&&◌, Bool, true, false, cond, List, [], ◌∷◌, ◌++◌, map, Option, Some, None, Err, refl, sym, ap, ◌∙◌}
use Rattle.std.specs.Prelude.{find}
use Rattle.std.specs.List.{AllByRecursion, list_any}
use Rattle.std.specs.Option.{option_map}
use Rattle.rdm_frame.specs.declared.nack.Nack.TheVariants.{UnknownPid}
use Rattle.rdm_table.specs.declared.kind.Verb.{Verb}
use Rattle.rdm_table.specs.declared.kind.Verb.TheVariants.{Get, Set}
use Rattle.rdm_table.specs.declared.way.Way.TheVariants.{AtOnce}
use Rattle.rdm_profile.specs.declared.profile.own.ParameterDef.{ParameterDef}
use Rattle.rdm_profile.specs.declared.profile.own.Shape.{Shape}
use Rattle.rdm_profile.specs.declared.profile.own.Shape.TheVariants as shapes
use Rattle.rdm_profile.specs.declared.profile.Profile.{Profile}
use Rattle.rdm_profile.specs.declared.value.Value.{Value}
use Rattle.rdm_added.specs.Added.{set_form, set_range, own_stored, has_makers_pid, is_pid_of}
use Rattle.rdm_added.specs.Map.{Entry}
use Rattle.rdm_profile.specs.OwnParameters.{has_get, has_set}
use Rattle.rdm_added.specs.Spot.{Spot}
use Rattle.rdm_commands.specs.Commands.Added.{row_here}
use Rattle.rdm_table.specs.Table.Rows.{Row, row_in, row_or, added_rows, added_row, description_row, gets_added, takes_added, command_in}
use Rattle.rdm_table.specs.Table.Uses.{access, change, reply, way_of}
use Rattle.rdm_table.proofs.Rows.{found}

-- ---- what holds of a row that is found

-- what holds of no row, of that of the table, and where there is none of that which the profile adds, holds of the row of the PID
pub row_has : (P : Option Row → Type 0) (left : Bool) (first later : Option Row) → P None → P first → (first ≡ None → P later) → P (cond left None (row_or first later))
row_has P true first later none a b = none
row_has P false None later none a b = b refl
row_has P false (Some r) later none a b = a

of_defs : (P : Row → Type 0) → ((d : ParameterDef) → P (added_row d)) → (ds : List ParameterDef) → AllByRecursion P (map added_row ds)
of_defs P each [] = tt
of_defs P each (d ∷ ds) = (each d, of_defs P each ds)

described_first : (P : Row → Type 0) (makers : Bool) (rows : List Row) → P description_row → AllByRecursion P rows → AllByRecursion P (cond makers (description_row ∷ []) [] ++ rows)
described_first P true rows one all = (one, all)
described_first P false rows one all = all

-- what holds of PARAMETER_DESCRIPTION's row and of that of each parameter holds of each row that is added
pub added_have : (P : Row → Type 0) → P description_row → ((d : ParameterDef) → P (added_row d)) → (p : Profile) → AllByRecursion P (added_rows p)
unfolding added_rows
added_have P one each p = described_first P (list_any has_makers_pid p.particulars.own) (map added_row p.particulars.own) one (of_defs P each p.particulars.own)

-- ---- what the rows that are added have

-- at the root alone, answered at once, and its SET leaves the values of the table and has no data in its reply
pub record IsAdded (r : Row) : Type 0 where
  pub root_only : r.root_only ≡ true
  pub way : (verb : Verb) → way_of (command_in (Some r) verb) ≡ AtOnce
  pub leaves : (spot : Spot) (v : Value) (e : Entry) → change (command_in (Some r) Set) spot v e ≡ e.bytes
  pub silent : (spot : Spot) (v : Value) → reply (command_in (Some r) Set) spot v ≡ []

description_way : (verb : Verb) → way_of (command_in (Some description_row) verb) ≡ AtOnce
description_way Get = refl
description_way Set = refl

get_way : (shape : Shape) (d : ParameterDef) (pid : ℕ) → way_of (gets_added shape d pid) ≡ AtOnce
get_way shapes.Byte d pid = refl
get_way shapes.Word d pid = refl
get_way shapes.Long d pid = refl
get_way shapes.SignedByte d pid = refl
get_way shapes.SignedWord d pid = refl
get_way shapes.SignedLong d pid = refl
get_way shapes.Text d pid = refl
get_way (shapes.Bits n) d pid = refl
get_way (shapes.Slots n) d pid = refl
get_way shapes.Choice d pid = refl
get_way shapes.Names d pid = refl
get_way shapes.Rates d pid = refl
get_way shapes.Scenes d pid = refl
get_way shapes.Lock d pid = refl
get_way shapes.Pin d pid = refl
get_way shapes.Block d pid = refl

row_way : (d : ParameterDef) (get set : Bool) (verb : Verb) → way_of (command_in (Some (record { pid = d.pid; root_only = true; get = cond get (gets_added d.shape d d.pid) None; set = cond set (takes_added (set_form d) (set_range d) (own_stored d) d.pid) None })) verb) ≡ AtOnce
row_way d true set Get = get_way d.shape d d.pid
row_way d false set Get = refl
row_way d get true Set = refl
row_way d get false Set = refl

row_leaves : (d : ParameterDef) (set : Bool) (spot : Spot) (v : Value) (e : Entry) → change (cond set (takes_added (set_form d) (set_range d) (own_stored d) d.pid) None) spot v e ≡ e.bytes
row_leaves d true spot v e = refl
row_leaves d false spot v e = refl

row_silent : (d : ParameterDef) (set : Bool) (spot : Spot) (v : Value) → reply (cond set (takes_added (set_form d) (set_range d) (own_stored d) d.pid) None) spot v ≡ []
row_silent d true spot v = refl
row_silent d false spot v = refl

pub parameter_is : (d : ParameterDef) → IsAdded (added_row d)
parameter_is d = record { root_only = refl; way = row_way d (has_get d.rights) (has_set d.rights); leaves = row_leaves d (has_set d.rights); silent = row_silent d (has_set d.rights) }

description_is : IsAdded description_row
description_is = record { root_only = refl; way = description_way; leaves = λ spot v e. refl; silent = λ spot v. refl }

pub are_added : (p : Profile) → AllByRecursion IsAdded (added_rows p)
are_added p = added_have IsAdded description_is parameter_is p

-- the same of a row that there may be
pub record MayBeAdded (row : Option Row) : Type 0 where
  pub way : (verb : Verb) → way_of (command_in row verb) ≡ AtOnce
  pub leaves : (spot : Spot) (v : Value) (e : Entry) → change (command_in row Set) spot v e ≡ e.bytes
  pub silent : (spot : Spot) (v : Value) → reply (command_in row Set) spot v ≡ []
  pub at_sub : (verb : Verb) → access row false verb ≡ Err UnknownPid

unknown_at_sub : (r : Row) (verb : Verb) → r.root_only ≡ true → access (Some r) false verb ≡ Err UnknownPid
unknown_at_sub r verb e = rw e refl

maybe : (p : Profile) (pid : ℕ) (row : Option Row) → row_in (added_rows p) pid ≡ row → MayBeAdded row
maybe p pid None e = record { way = λ verb. refl; leaves = λ spot v e. refl; silent = λ spot v. refl; at_sub = λ verb. refl }
maybe p pid (Some r) e =
    let is = (found IsAdded (added_rows p) pid r (are_added p) e).0 in
    record { way = is.way; leaves = is.leaves; silent = is.silent; at_sub = λ verb. unknown_at_sub r verb is.root_only }

pub here_is : (p : Profile) (pid : ℕ) → MayBeAdded (row_here p pid)
here_is p pid = maybe p pid (row_here p pid) refl

-- ---- the row that is found

first_of : (makers at : Bool) (rest : List Row) (pid : ℕ) → (0x0051 == pid) ≡ at → (at && makers) ≡ true → row_in (cond makers (description_row ∷ []) [] ++ rest) pid ≡ Some description_row
first_of true true rest pid e both = ap (λ (here : Bool). cond here (Some description_row) (row_in rest pid)) e
first_of false true rest pid e both = absurd cc
first_of true false rest pid e both = absurd cc
first_of false false rest pid e both = absurd cc

pub description_here : (p : Profile) (pid : ℕ) → ((0x0051 == pid) && list_any has_makers_pid p.particulars.own) ≡ true → row_here p pid ≡ Some description_row
unfolding added_rows
description_here p pid both = first_of (list_any has_makers_pid p.particulars.own) (0x0051 == pid) (map added_row p.particulars.own) pid refl both

not_first : (makers at : Bool) (rest : List Row) (pid : ℕ) → (0x0051 == pid) ≡ at → (at && makers) ≡ false → row_in (cond makers (description_row ∷ []) [] ++ rest) pid ≡ row_in rest pid
not_first true true rest pid e neither = absurd cc
not_first true false rest pid e neither = ap (λ (here : Bool). cond here (Some description_row) (row_in rest pid)) e
not_first false at rest pid e neither = refl

one_mapped : (here : Bool) (d : ParameterDef) (later : Option Row) (rest : Option ParameterDef) → later ≡ option_map added_row rest → cond here (Some (added_row d)) later ≡ option_map added_row (cond here (Some d) rest)
one_mapped true d later rest e = refl
one_mapped false d later rest e = e

found_def : (ds : List ParameterDef) (pid : ℕ) → row_in (map added_row ds) pid ≡ option_map added_row (find (is_pid_of pid) ds)
found_def [] pid = refl
found_def (d ∷ ds) pid = one_mapped (d.pid == pid) d (row_in (map added_row ds) pid) (find (is_pid_of pid) ds) (found_def ds pid)

here_of_defs : (p : Profile) (pid : ℕ) → ((0x0051 == pid) && list_any has_makers_pid p.particulars.own) ≡ false → row_here p pid ≡ option_map added_row (find (is_pid_of pid) p.particulars.own)
unfolding added_rows
here_of_defs p pid neither = not_first (list_any has_makers_pid p.particulars.own) (0x0051 == pid) (map added_row p.particulars.own) pid refl neither ∙ found_def p.particulars.own pid

pub parameter_here : (p : Profile) (pid : ℕ) (d : ParameterDef) → ((0x0051 == pid) && list_any has_makers_pid p.particulars.own) ≡ false → Some d ≡ find (is_pid_of pid) p.particulars.own → row_here p pid ≡ Some (added_row d)
parameter_here p pid d neither e = here_of_defs p pid neither ∙ ap (option_map added_row) (sym e)

pub nothing_here : (p : Profile) (pid : ℕ) → ((0x0051 == pid) && list_any has_makers_pid p.particulars.own) ≡ false → None ≡ find (is_pid_of pid) p.particulars.own → row_here p pid ≡ None
nothing_here p pid neither e = here_of_defs p pid neither ∙ ap (option_map added_row) (sym e)
