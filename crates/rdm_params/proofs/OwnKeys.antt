-- A SET changes no value but at the keys of its parameter.
use Rattle.std.proofs.Common.{◌≡◌, ℕ, zero, suc, ◌+◌, ◌-◌, ◌==◌, ◌&&◌, ◌||◌, Bool, true, false, cond, List, [], ◌∷◌, ◌++◌, map, Option, Some, None, Result, Ok, Err, refl, sym, ap, subst, ◌∙◌}
use Rattle.std.specs.Prelude.{filter, find, slice_index_or, slice_set}
use Rattle.std.specs.Option.{option_map_or}
use Rattle.std.specs.List.{list_any, AllByRecursion}
use Rattle.std.proofs.lemmas.Bool.{eqb-true, eqb-false, ne_eqb}
use Rattle.rdm_frame.specs.declared.nack.Nack.{Nack}
use Rattle.rdm_table.specs.declared.kind.Verb.TheVariants.{Set}
use Rattle.rdm_profile.specs.declared.value.Value.{Value}
use Rattle.rdm_device.specs.Columns.Changes.{stored_at, set_back, sensor_change, reset, record_present}
use Rattle.rdm_table.specs.Table.Rows.{command_of, Command, Row, table, row_of, row_in, is_left_out, added_rows, takes_added, command_in}
use Rattle.rdm_commands.specs.Commands.Commands.{command_at, accepted, after_by_row, after_accepted, is_block, carried_out, root_spot, sub_spot, is_all_call}
use Rattle.rdm_table.specs.Table.Uses.{written, added_written, is_slow, change, added_change}
use Rattle.rdm_commands.specs.Commands.Added.{row_here}
use Rattle.rdm_profile.specs.Forms.{Form, byte, word, long, preset, label, has_form}
use Rattle.rdm_params.specs.Laws.{keys_written, keys_of_row, SameAt, ChangesItsKeys}
use Rattle.rdm_added.specs.Locking.{locks_in, lock_state}
use Rattle.rdm_added.specs.Map.{Entry, has_key, lookup, update}
use Rattle.rdm_added.specs.Parameters.{Parameters}
use Rattle.rdm_device.specs.Columns.Replies.{factory_pids, reset_pids}
use Rattle.rdm_device.specs.Device.Blocks.{started_from}
use Rattle.rdm_added.specs.Spot.{Spot, footprint}
use Rattle.rdm_profile.specs.declared.value.Value.TheVariants.{Word}
use Rattle.rdm_profile.specs.Values.{bytes_of, byte_or_0}
use Rattle.rdm_profile.specs.declared.profile.own.ParameterDef.{ParameterDef}
use Rattle.rdm_profile.specs.declared.profile.Profile.{Profile}
use Rattle.rdm_added.specs.Added.{counted, no_counts, index_kept, bytes_kept, bytes_ordered, set_form, set_range, stored_by, own_stored, added_set_back, start_in}
use Rattle.rdm_profile.specs.declared.profile.own.Rights.{Rights}
use Rattle.rdm_profile.specs.declared.profile.own.Rights.TheVariants as rights
use Rattle.rdm_profile.specs.OwnParameters.{has_set}
use Rattle.rdm_commands.proofs.AddedRows.{row_has, added_have, here_is}
use Rattle.rdm_commands.proofs.BlockRows.{after_either}
use Rattle.rdm_table.proofs.Bools.{both_true, not_either}
use Rattle.rdm_table.proofs.Rows.{found}

-- ---- changes and lookups

-- an entry of this PID keeps its bytes
abbrev pub Keeps : ℕ → (Entry → List ℕ) → Type 0
Keeps key f = (e : Entry) → e.pid ≡ key → f e ≡ e.bytes

kept_at : (key index : ℕ) (f : Entry → List ℕ) (e : Entry) (rest rest' : List ℕ) → Keeps key f → rest' ≡ rest → (here : Bool) → has_key key index e ≡ here → cond here (f e) rest' ≡ cond here e.bytes rest
kept_at key index f e rest rest' keeps r true h = keeps e (eqb-true e.pid key (both_true (e.pid == key) (e.index == index) h).0)
kept_at key index f e rest rest' keeps r false h = r

pub lookup-update : (key index : ℕ) (f : Entry → List ℕ) (es : List Entry) → Keeps key f → lookup (update f es) key index ≡ lookup es key index
lookup-update key index f [] keeps = refl
lookup-update key index f (e ∷ es) keeps = kept_at key index f e (lookup es key index) (lookup (update f es) key index) keeps (lookup-update key index f es keeps) (has_key key index e) refl

-- ---- what the rows change

abbrev pub IsApart : Profile → ℕ → ℕ → Type 0
IsApart profile pid key = list_any (λ k. k == key) (keys_of_row profile pid) ≡ false

-- the SET of a row writes its own keys
abbrev OnlyItsKeys : Row → Type 0
OnlyItsKeys r = (spot : Spot) (v : Value) (key : ℕ) → IsApart spot.profile r.pid key → Keeps key (change (command_in (Some r) Set) spot v)

either_not : (a b : Bool) → a ≡ false → b ≡ false → (a || b) ≡ false
either_not true b e f = e
either_not false b e f = f

-- a key that isn't this PID
pub apart_test : (pid key n : ℕ) → (pid == key) ≡ false → n ≡ key → (n == pid) ≡ false
apart_test pid key n apart e = ne_eqb n pid (λ (same : n ≡ pid). eqb-false pid key apart (sym same ∙ e))

no_change : (a b c : Bool) (x y : List ℕ) → a ≡ false → cond ((a && b) && c) x y ≡ y
no_change true b c x y e = absurd cc
no_change false b c x y e = refl

stores_only : (pid key : ℕ) (form : Form) (spot : Spot) (v : Value) → (pid == key) ≡ false → Keeps key (stored_at pid form spot v)
stores_only pid key form spot v apart e at = no_change (e.pid == pid) (e.index == 0) (has_form form v) (bytes_of v) e.bytes (apart_test pid key e.pid apart at)

stores : (pid : ℕ) (form : Form) (spot : Spot) (v : Value) (key : ℕ) → ((pid == key) || false) ≡ false → Keeps key (stored_at pid form spot v)
stores pid form spot v key apart = stores_only pid key form spot v (not_either (pid == key) false apart).0

senses : (made : List ℕ → List ℕ) (spot : Spot) (v : Value) (key : ℕ) → ((0x0201 == key) || false) ≡ false → Keeps key (sensor_change made (byte_or_0 v))
senses made spot v key apart e at = rw (apart_test 0x0201 key e.pid (not_either (0x0201 == key) false apart).0 at) refl

and_either : (a b c : Bool) → a ≡ false → c ≡ false → ((a && b) || c) ≡ false
and_either true b c e f = absurd cc
and_either false b c e f = f

none_of : (pids : List ℕ) (key : ℕ) (e : Entry) → list_any (λ k. k == key) pids ≡ false → e.pid ≡ key → list_any (λ pid. has_key pid 0 e) pids ≡ false
none_of [] key e apart at = refl
none_of (pid ∷ pids) key e apart at =
    let parts = not_either (pid == key) (list_any (λ k. k == key) pids) apart in
    and_either (e.pid == pid) (e.index == 0) (list_any (λ pid. has_key pid 0 e) pids) (apart_test pid key e.pid parts.0 at) (none_of pids key e parts.1 at)

none_either : (key : ℕ) (xs ys : List ℕ) → list_any (λ k. k == key) (xs ++ ys) ≡ false → (list_any (λ k. k == key) xs ≡ false) × (list_any (λ k. k == key) ys ≡ false)
none_either key [] ys e = (refl, e)
none_either key (x ∷ xs) ys e =
    let first = not_either (x == key) (list_any (λ k. k == key) (xs ++ ys)) e in
    let rest = none_either key xs ys first.1 in
    (either_not (x == key) (list_any (λ k. k == key) xs) first.0 rest.0, rest.1)

sets_back : (spot : Spot) (v : Value) (key : ℕ) → list_any (λ k. k == key) (factory_pids ++ reset_pids spot.profile.particulars.own) ≡ false → Keeps key (set_back spot v)
sets_back spot v key apart e at = rw (none_of factory_pids key e (none_either key factory_pids (reset_pids spot.profile.particulars.own) apart).0 at) refl

-- of the parameters of the maker's own, one that isn't among those that are set back
not_reset : (here later : Bool) (d : ParameterDef) (pid n key : ℕ) (rest : List ParameterDef) → list_any (λ k. k == key) (map (λ (x : ParameterDef). x.pid) (cond here (d ∷ rest) rest)) ≡ false → d.pid ≡ pid → n ≡ key → ((here && (pid == n)) ≡ false) × (list_any (λ k. k == key) (map (λ (x : ParameterDef). x.pid) rest) ≡ false)
not_reset true later d pid n key rest apart is at =
    let parts = not_either (d.pid == key) (list_any (λ k. k == key) (map (λ (x : ParameterDef). x.pid) rest)) apart in
    (ap (λ (p : ℕ). p == n) (sym is) ∙ ap (λ (k : ℕ). d.pid == k) at ∙ parts.0, parts.1)
not_reset false later d pid n key rest apart is at = (refl, apart)

pass_over : (here : Bool) (d : ParameterDef) (rest : Option ParameterDef) → here ≡ false → rest ≡ None → cond here (Some d) rest ≡ None
pass_over true d rest e f = absurd cc
pass_over false d rest e f = f

none_reset : (ds : List ParameterDef) (key n : ℕ) → list_any (λ k. k == key) (reset_pids ds) ≡ false → n ≡ key → find (λ (d : ParameterDef). d.resets && (d.pid == n)) ds ≡ None
none_reset [] key n apart at = refl
none_reset (d ∷ ds) key n apart at =
    let parts = not_reset d.resets false d d.pid n key (filter (λ (x : ParameterDef). x.resets) ds) apart refl at in
    pass_over (d.resets && (d.pid == n)) d (find (λ (x : ParameterDef). x.resets && (x.pid == n)) ds) parts.0 (none_reset ds key n parts.1 at)

either_is : (here : Bool) (x y : List ℕ) → x ≡ y → cond here x y ≡ y
either_is true x y e = e
either_is false x y e = refl

either_stays : (locked : Bool) (x y : List ℕ) → y ≡ x → cond locked x y ≡ x
either_stays true x y e = refl
either_stays false x y e = e

added_back : (spot : Spot) (v : Value) (key : ℕ) → list_any (λ k. k == key) (factory_pids ++ reset_pids spot.profile.particulars.own) ≡ false → Keeps key (added_set_back spot v)
added_back spot v key apart e at =
    let back : List ℕ = cond (e.index == 0) (start_in spot.profile.particulars.own e.pid e.bytes) e.bytes in
    let stays : back ≡ e.bytes =
    either_is (e.index == 0) (start_in spot.profile.particulars.own e.pid e.bytes) e.bytes (ap (λ (found : Option ParameterDef). option_map_or (λ (d : ParameterDef). d.start) found e.bytes) (none_reset spot.profile.particulars.own key e.pid (none_either key factory_pids (reset_pids spot.profile.particulars.own) apart).1 at))
    in
    either_stays (locks_in spot.profile.particulars.locks (lock_state spot.added) e.pid) e.bytes back stays

idle : (pid : ℕ) (spot : Spot) (v : Value) (key : ℕ) → IsApart spot.profile pid key → Keeps key (λ e. e.bytes)
idle pid spot v key apart e at = refl

rows_only : AllByRecursion OnlyItsKeys table
unfolding table
rows_only =
    (idle 0x0020, (idle 0x0030, (idle 0x0031, (idle 0x0032, (stores 0x0033 byte, (idle 0x0050, (idle 0x0060, (idle 0x0080, (idle 0x0081, (stores 0x0082 label, (sets_back, (idle 0x00A0, (stores 0x00B0 word, (idle 0x00C0, (idle 0x00C1, (idle 0x00C2, (stores 0x00E0 byte, (idle 0x00E1, (stores 0x00F0 word, (idle 0x0120, (idle 0x0121, (idle 0x0122, (idle 0x0200, (senses reset, (senses record_present, (stores 0x0400 long, (stores 0x0401 long, (stores 0x0402 long, (stores 0x0403 byte, (stores 0x0404 byte, (stores 0x0405 long, (stores 0x0500 byte, (stores 0x0501 byte, (stores 0x0600 byte, (stores 0x0601 byte, (stores 0x0602 byte, (stores 0x1000 byte, (stores 0x1010 byte, (stores 0x1020 byte, (idle 0x1021, (stores 0x1031 preset, tt)))))))))))))))))))))))))))))))))))))))))

-- and so do its changes of the parameters that the maker adds
abbrev AddedOnlyItsKeys : Row → Type 0
AddedOnlyItsKeys r = (spot : Spot) (v : Value) (key : ℕ) → IsApart spot.profile r.pid key → Keeps key (added_change (command_in (Some r) Set) spot v)

rows_added_only : AllByRecursion AddedOnlyItsKeys table
unfolding table
rows_added_only = (λ s v k a e at. refl, (λ s v k a e at. refl, (λ s v k a e at. refl, (λ s v k a e at. refl, (λ s v k a e at. refl, (λ s v k a e at. refl, (λ s v k a e at. refl, (λ s v k a e at. refl, (λ s v k a e at. refl, (λ s v k a e at. refl, (added_back, (λ s v k a e at. refl, (λ s v k a e at. refl, (λ s v k a e at. refl, (λ s v k a e at. refl, (λ s v k a e at. refl, (λ s v k a e at. refl, (λ s v k a e at. refl, (λ s v k a e at. refl, (λ s v k a e at. refl, (λ s v k a e at. refl, (λ s v k a e at. refl, (λ s v k a e at. refl, (λ s v k a e at. refl, (λ s v k a e at. refl, (λ s v k a e at. refl, (λ s v k a e at. refl, (λ s v k a e at. refl, (λ s v k a e at. refl, (λ s v k a e at. refl, (λ s v k a e at. refl, (λ s v k a e at. refl, (λ s v k a e at. refl, (λ s v k a e at. refl, (λ s v k a e at. refl, (λ s v k a e at. refl, (λ s v k a e at. refl, (λ s v k a e at. refl, (λ s v k a e at. refl, (λ s v k a e at. refl, (λ s v k a e at. refl, tt)))))))))))))))))))))))))))))))))))))))))

row_adds : (pid : ℕ) (row : Option Row) → row_in table pid ≡ row → (spot : Spot) (v : Value) (key : ℕ) → IsApart spot.profile pid key → Keeps key (added_change (command_in row Set) spot v)
row_adds pid None e spot v key apart = λ e at. refl
row_adds pid (Some r) e spot v key apart =
    let only = found AddedOnlyItsKeys table pid r rows_added_only e in
    only.0 spot v key (subst (λ (n : ℕ). IsApart spot.profile n key) (sym only.1) apart)

command_adds : (pid : ℕ) (spot : Spot) (v : Value) (key : ℕ) → IsApart spot.profile pid key → Keeps key (added_change (command_of pid Set) spot v)
unfolding row_of
command_adds pid spot v key apart = row_adds pid (row_in table pid) refl spot v key apart

row_changes : (pid : ℕ) (row : Option Row) → row_in table pid ≡ row → (spot : Spot) (v : Value) (key : ℕ) → IsApart spot.profile pid key → Keeps key (change (command_in row Set) spot v)
row_changes pid None e spot v key apart = λ e at. refl
row_changes pid (Some r) e spot v key apart =
    let only = found OnlyItsKeys table pid r rows_only e in
    only.0 spot v key (subst (λ (n : ℕ). IsApart spot.profile n key) (sym only.1) apart)

command_changes : (pid : ℕ) (spot : Spot) (v : Value) (key : ℕ) → IsApart spot.profile pid key → Keeps key (change (command_of pid Set) spot v)
unfolding row_of
command_changes pid spot v key apart = row_changes pid (row_in table pid) refl spot v key apart

-- the keys that a SET writes, of the table and of what the profile adds
pub record WritesOnly (pid : ℕ) (command : Option Command) : Type 0 where
  pub table : (spot : Spot) (v : Value) (key : ℕ) → IsApart spot.profile pid key → Keeps key (change command spot v)
  pub added : (spot : Spot) (v : Value) (key : ℕ) → IsApart spot.profile pid key → Keeps key (added_change command spot v)

pub of_table : (pid : ℕ) → WritesOnly pid (command_of pid Set)
of_table pid = record { table = command_changes pid; added = command_adds pid }

-- a parameter that the table doesn't have writes its own key
abbrev is_some_row : Option Row → Bool
is_some_row None = false
is_some_row (Some r) = true

there_is_0090 : is_some_row (row_of 0x0090) ≡ true
unfolding row_of table
there_is_0090 = refl

there_is_0202 : is_some_row (row_of 0x0202) ≡ true
unfolding row_of table
there_is_0202 = refl

never : false ≡ true → ⊥
never e = cc

other : (pid n : ℕ) → is_some_row (row_of n) ≡ true → row_of pid ≡ None → (pid == n) ≡ false
other pid n some none = ne_eqb pid n (λ (same : pid ≡ n). never (sym (ap is_some_row (ap row_of (sym same) ∙ none)) ∙ some))

own_key : (profile : Profile) (pid key : ℕ) → row_of pid ≡ None → IsApart profile pid key → (pid == key) ≡ false
own_key profile pid key none apart =
    let plain : keys_of_row profile pid ≡ pid ∷ [] = rw (other pid 0x0090 there_is_0090 none, other pid 0x0202 there_is_0202 none) refl in
    (not_either (pid == key) false (ap (list_any (λ k. k == key)) (sym plain) ∙ apart)).0

no_store : (a b : Bool) (x y : List ℕ) → a ≡ false → cond (a && b) x y ≡ y
no_store true b x y e = absurd cc
no_store false b x y e = refl

abbrev OnlyAdded : Row → Type 0
OnlyAdded r = (spot : Spot) (v : Value) (key : ℕ) → (r.pid == key) ≡ false → Keeps key (added_change (command_in (Some r) Set) spot v)

one_stored : (by : Rights) (d : ParameterDef) (spot : Spot) (v : Value) (key : ℕ) → (d.pid == key) ≡ false → Keeps key (stored_by by d spot v)
one_stored rights.Get d spot v key apart e at = no_store (e.pid == d.pid) (e.index == index_kept d.shape v) (bytes_kept d.shape v) e.bytes (apart_test d.pid key e.pid apart at)
one_stored rights.Set d spot v key apart e at =
    no_store (e.pid == d.pid) (e.index == 0) (bytes_ordered d.shape v) (cond (has_key d.pid 1 e) (counted (lookup spot.added d.pid 1)) e.bytes) (apart_test d.pid key e.pid apart at)
    ∙ no_store (e.pid == d.pid) (e.index == 1) (counted (lookup spot.added d.pid 1)) e.bytes (apart_test d.pid key e.pid apart at)
one_stored rights.Both d spot v key apart e at = no_store (e.pid == d.pid) (e.index == index_kept d.shape v) (bytes_kept d.shape v) e.bytes (apart_test d.pid key e.pid apart at)
one_stored rights.Clear d spot v key apart e at = no_store (e.pid == d.pid) (e.index == 0) no_counts e.bytes (apart_test d.pid key e.pid apart at)

one_added : (d : ParameterDef) (set : Bool) (spot : Spot) (v : Value) (key : ℕ) → (d.pid == key) ≡ false → Keeps key (added_change (cond set (takes_added (set_form d) (set_range d) (own_stored d) d.pid) None) spot v)
one_added d true spot v key apart e at = one_stored d.rights d spot v key apart e at
one_added d false spot v key apart e at = refl

pub of_added : (p : Profile) (pid : ℕ) (row : Option Row) → row_in (added_rows p) pid ≡ row → (spot : Spot) (v : Value) (key : ℕ) → (pid == key) ≡ false → Keeps key (added_change (command_in row Set) spot v)
of_added p pid None e spot v key apart = λ entry at. refl
of_added p pid (Some r) e spot v key apart =
    let only = found OnlyAdded (added_rows p) pid r (added_have OnlyAdded (λ spot v key apart e at. refl) (λ d. one_added d (has_set d.rights)) p) e in
    only.0 spot v key (subst (λ (n : ℕ). (n == key) ≡ false) (sym only.1) apart)

pub writes_only : (p : Parameters) (pid : ℕ) → WritesOnly pid (command_at p pid Set)
writes_only p pid =
    row_has (λ (row : Option Row). WritesOnly pid (command_in row Set)) (is_left_out p.profile pid) (row_of pid) (row_here p.profile pid)
    (record { table = λ spot v key apart e at. refl; added = λ spot v key apart e at. refl }) (of_table pid)
    (λ none. record { table = λ spot v key apart e at. (here_is p.profile pid).leaves spot v e; added = λ spot v key apart. of_added p.profile pid (row_here p.profile pid) refl spot v key (own_key spot.profile pid key none apart) })

-- ---- the values after a SET

written_keeps : (pid : ℕ) (command : Option Command) (v : Value) (spot : Spot) (key index : ℕ) → WritesOnly pid command → IsApart spot.profile pid key → lookup (written command v spot) key index ≡ lookup spot.entries key index
written_keeps pid command v spot key index only apart = lookup-update key index (change command spot v) spot.entries (only.table spot v key apart)

added_keeps : (pid : ℕ) (command : Option Command) (v : Value) (spot : Spot) (key index : ℕ) → WritesOnly pid command → IsApart spot.profile pid key → lookup (added_written command v spot) key index ≡ lookup spot.added key index
added_keeps pid command v spot key index only apart = lookup-update key index (added_change command spot v) spot.added (only.added spot v key apart)

map_keeps : (f : List Entry → List Entry) (key index : ℕ) → ((es : List Entry) → lookup (f es) key index ≡ lookup es key index) → (subs : List (List Entry)) (k : ℕ) → lookup (slice_index_or (map f subs) k []) key index ≡ lookup (slice_index_or subs k []) key index
map_keeps f key index same [] k = refl
map_keeps f key index same (es ∷ subs) zero = same es
map_keeps f key index same (es ∷ subs) (suc k) = map_keeps f key index same subs k

set_keeps : (key index : ℕ) (subs : List (List Entry)) (i : ℕ) (new : List Entry) → lookup new key index ≡ lookup (slice_index_or subs i []) key index → (k : ℕ) → lookup (slice_index_or (slice_set subs i new) k []) key index ≡ lookup (slice_index_or subs k []) key index
set_keeps key index [] i new same k = refl
set_keeps key index (es ∷ subs) zero new same zero = same
set_keeps key index (es ∷ subs) zero new same (suc k) = refl
set_keeps key index (es ∷ subs) (suc i) new same zero = refl
set_keeps key index (es ∷ subs) (suc i) new same (suc k) = set_keeps key index subs i new same k

pub carried_keeps : (p : Parameters) (sub pid : ℕ) (command : Option Command) (v : Value) (key index : ℕ) → WritesOnly pid command → IsApart p.profile pid key → (at_root all : Bool) → SameAt key index p (cond at_root (record p { root = written command v (root_spot p); added = added_written command v (root_spot p) }) (cond all (record p { subs = map (λ entries. written command v (sub_spot p entries)) p.subs }) (record p { subs = slice_set p.subs (sub - 1) (written command v (sub_spot p (slice_index_or p.subs (sub - 1) []))) })))
carried_keeps p sub pid command v key index only apart true all = record { root = written_keeps pid command v (root_spot p) key index only apart; added = added_keeps pid command v (root_spot p) key index only apart; subs = λ k. refl }
carried_keeps p sub pid command v key index only apart false true = record { root = refl; added = refl; subs = map_keeps (λ entries. written command v (sub_spot p entries)) key index (λ entries. written_keeps pid command v (sub_spot p entries) key index only apart) p.subs }
carried_keeps p sub pid command v key index only apart false false = record { root = refl; added = refl; subs = set_keeps key index p.subs (sub - 1) _ (written_keeps pid command v (sub_spot p (slice_index_or p.subs (sub - 1) [])) key index only apart) }

unless_slow : (p new : Parameters) (key index : ℕ) (slow : Bool) → SameAt key index p new → SameAt key index p (cond slow p new)
unless_slow p new key index true same = record { root = refl; added = refl; subs = λ k. refl }
unless_slow p new key index false same = same

after_keeps : (p : Parameters) (sub pid : ℕ) (command : Option Command) (read : Result Value Nack) (key index : ℕ) → WritesOnly pid command → IsApart p.profile pid key → SameAt key index p (after_accepted p sub command read)
after_keeps p sub pid command (Err nack) key index only apart = record { root = refl; added = refl; subs = λ k. refl }
after_keeps p sub pid command (Ok v) key index only apart = unless_slow p (carried_out p sub command v) key index (is_slow command) (carried_keeps p sub pid command v key index only apart (sub == 0) (is_all_call sub Set))

keys_by_row : (p : Parameters) (sub pid : ℕ) (bytes : List ℕ) (key index : ℕ) → IsApart p.profile pid key → SameAt key index p (after_by_row p sub pid bytes)
unfolding after_by_row
keys_by_row p sub pid bytes key index apart = after_keeps p sub pid (command_at p pid Set) (accepted p sub pid Set bytes) key index (writes_only p pid) apart

-- start addresses alone are another
one_starts : (uses_none : Bool) (spot : Spot) (base key index : ℕ) → (0x00F0 == key) ≡ false → lookup (cond uses_none spot.entries (update (stored_at 0x00F0 word spot (Word base)) spot.entries)) key index ≡ lookup spot.entries key index
one_starts true spot base key index apart = refl
one_starts false spot base key index apart = lookup-update key index (stored_at 0x00F0 word spot (Word base)) spot.entries (stores_only 0x00F0 key word spot (Word base) apart)

starts_keep : (p : Parameters) (key index base : ℕ) → (0x00F0 == key) ≡ false → (subs : List (List Entry)) (k : ℕ) → lookup (slice_index_or (started_from base (map (sub_spot p) subs)) k []) key index ≡ lookup (slice_index_or subs k []) key index
starts_keep p key index base apart [] k = refl
starts_keep p key index base apart (es ∷ subs) zero = one_starts (footprint (sub_spot p es) == 0) (sub_spot p es) base key index apart
starts_keep p key index base apart (es ∷ subs) (suc k) = starts_keep p key index (base + footprint (sub_spot p es)) apart subs k

apart_by : (profile : Profile) (pid key : ℕ) (b : Bool) → is_block pid ≡ b → list_any (λ k. k == key) (keys_written profile pid) ≡ false → list_any (λ k. k == key) (cond b (0x00F0 ∷ []) (keys_of_row profile pid)) ≡ false
apart_by profile pid key b e apart = ap (λ (x : Bool). list_any (λ k. k == key) (cond x (0x00F0 ∷ []) (keys_of_row profile pid))) (sym e) ∙ apart

pub changes_its_keys : ChangesItsKeys
changes_its_keys p sub pid bytes key index apart =
    after_either (SameAt key index p) p sub pid bytes
    (record { root = refl; added = refl; subs = λ k. refl })
    (λ is base. record { root = refl; added = refl; subs = starts_keep p key index base (not_either (0x00F0 == key) false (apart_by p.profile pid key true is apart)).0 p.subs })
    (λ no. keys_by_row p sub pid bytes key index (apart_by p.profile pid key false no apart))
