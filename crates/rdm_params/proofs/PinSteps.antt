-- What is kept of LOCK_PIN after each step, and that it opens.
use Rattle.std.proofs.Common.{◌≡◌, ◌≢◌, ℕ, ◌-◌, ◌≤◌, ◌==◌, ◌&&◌, ◌||◌, not, Bool, true, false, cond, List, [], ◌∷◌, ◌++◌, length, map, Option, Some, None, Result, Ok, Err, refl, sym, ap, subst, ◌∙◌, IsTrue, arith, pos}
use Rattle.std.specs.Prelude.{find, fold, nat_le, take, is_some, is_ok, slice_index_or, slice_set}
use Rattle.std.specs.List.{AllByRecursion, list_any}
use Rattle.std.specs.Option.{option_map_or}
use Rattle.std.specs.Ordering.{int_eq}
use Rattle.std.proofs.lemmas.Bool.{eqb-true, eq-eqb}
use Rattle.std.proofs.lemmas.List.{length-take-le}
use Rattle.std.proofs.lemmas.List.Elements.{recursion_from_All}
use Rattle.rdm_frame.specs.declared.nack.Nack.{Nack}
use Rattle.rdm_frame.specs.declared.nack.Nack.TheVariants.{UnknownPid, FormatError}
use Rattle.rdm_profile.specs.declared.profile.locks.Lock.{Lock}
use Rattle.rdm_profile.specs.declared.profile.own.ParameterDef.{ParameterDef}
use Rattle.rdm_profile.specs.declared.profile.own.Rights.{Rights}
use Rattle.rdm_profile.specs.declared.profile.own.Rights.TheVariants as rights
use Rattle.rdm_profile.specs.declared.profile.own.Shape.{Shape}
use Rattle.rdm_profile.specs.declared.profile.own.Shape.TheVariants as shapes
use Rattle.rdm_profile.specs.declared.profile.Profile.{Profile}
use Rattle.rdm_profile.specs.declared.value.Value.{Value}
use Rattle.rdm_profile.specs.declared.value.Value.TheVariants.{Byte, Word, Label}
use Rattle.rdm_added.specs.Added.{set_form, form_by, form_taken, set_range, takes, taken_by, taken_as, slots_in, stored_by, order_stored, kept_stored, bytes_kept, bytes_ordered, bytes_placed, index_kept, counted, placed_form, placed_stored, is_pid_of}
use Rattle.rdm_profile.specs.Forms.{Form, sized, word, has_length, value_of, value_in}
use Rattle.rdm_profile.specs.Locks.{has_pin, can_open, can_hold, sets_of_table, sets_of_own}
use Rattle.rdm_added.specs.Locking.{is_set_locked, is_lock_of, is_locked, is_no_pin, lock_state, knows_pin, state_of, new_pin, pin_kept}
use Rattle.rdm_added.specs.Map.{Entry, entry, has_key, lookup, update}
use Rattle.rdm_profile.specs.OwnParameters.{has_get, has_set, is_within}
use Rattle.rdm_added.specs.Parameters.{Parameters, parameters_of}
use Rattle.rdm_profile.specs.Profiles.{IsGoodProfile}
use Rattle.rdm_added.specs.Spot.{Spot}
use Rattle.rdm_profile.specs.Standards.{is_lock, lock, may_have, follows, follows_at, is_only_standards, is_of_standards}
use Rattle.rdm_profile.specs.Values.{word_slots}
use Rattle.rdm_table.specs.declared.kind.Verb.TheVariants.{Set}
use Rattle.rdm_commands.specs.declared.jobs.outcome.Outcome.TheVariants.{Done, Reading, Failed}
use Rattle.rdm_commands.specs.declared.verdict.Verdict.TheVariants.{Reply}
use Rattle.rdm_commands.specs.Commands.Added.{row_here, handed_here}
use Rattle.rdm_table.specs.Table.Rows.{command_of, Command, Row, table, row_of, row_at, is_left_out, added_row, takes_added, command_in}
use Rattle.rdm_commands.specs.Commands.Commands.{command_at, root_spot, sub_spot, carried_out, is_all_call, accepted, unprotected, is_block, is_read_only, after_accepted, after_by_row, after_set, answer_by_row, answer_to_set, verdict}
use Rattle.rdm_table.specs.Table.Uses.{written, added_written, access, read, read_as, added_change, is_slow, keeps}
use Rattle.rdm_commands.specs.Commands.Panel.{changed_pid, changed_value, can_change, after_change}
use Rattle.rdm_commands.specs.Commands.Placing.{place_refusal, has_set as sets, own_at, own_placed, after_value, after_place}
use Rattle.rdm_commands.specs.Commands.Saving.{powered_on}
use Rattle.rdm_commands.specs.Jobs.Commit.{after_commit}
use Rattle.rdm_params.specs.Pins.{Step, set, place, commit, change, power, after_step, values_after, KeptPinOpens, NewPinIsKept}
use Rattle.rdm_commands.proofs.AddedCommands.{at_here, handed_is, set_hands, set_here_replies}
use Rattle.rdm_commands.proofs.AddedRows.{row_has, parameter_here}
use Rattle.rdm_commands.proofs.BlockRows.{after_either, row_after, row_answer}
use Rattle.rdm_table.proofs.Bools.{both_true, is_not}
use Rattle.rdm_params.proofs.OwnKeys.{apart_test, of_added}
use Rattle.rdm_params.proofs.PinSlots.{Fits, LeavesTwo, updated, two_slots, keeps_two, IsPinDef, IfPin, HasPin, pins_of, fits_at_start, table_fits}
use Rattle.rdm_params.proofs.PlacesAsSet.{says_behind}
use Rattle.rdm_params.proofs.StaysAccepted.{set_keeps_devices, commit_keeps_devices, panel_keeps_devices, place_keeps_devices}

never : false ≡ true → ⊥
never e = cc

abbrev ok : Value → Result Value Nack
ok v = Ok v

ok_is : (a b : Value) → ok a ≡ ok b → a ≡ b
ok_is a b e = cc

-- ---- parameters that are found

abbrev some_def : ParameterDef → Option ParameterDef
some_def d = Some d

def_is : (a b : ParameterDef) → some_def a ≡ some_def b → a ≡ b
def_is a b e = cc

found_at : (P : ParameterDef → Type 0) (x : ParameterDef) (n : ℕ) (later : Option ParameterDef) (d : ParameterDef) (here : Bool) → (x.pid == n) ≡ here → P x → (later ≡ some_def d → P d × (d.pid ≡ n)) → cond here (some_def x) later ≡ some_def d → P d × (d.pid ≡ n)
found_at P x n later d true is one rest e = subst (λ (y : ParameterDef). P y × (y.pid ≡ n)) (def_is x d e) (one, eqb-true x.pid n is)
found_at P x n later d false is one rest e = rest e

-- what holds of each parameter holds of the one that is found for a PID, and it has that PID
found : (P : ParameterDef → Type 0) (ds : List ParameterDef) (n : ℕ) (d : ParameterDef) → AllByRecursion P ds → find (is_pid_of n) ds ≡ some_def d → P d × (d.pid ≡ n)
found P [] n d all e = absurd cc
found P (x ∷ xs) n d all e = found_at P x n (find (is_pid_of n) xs) d (x.pid == n) refl all.0 (found P xs n d all.1) e

abbrev Found : List ParameterDef → ℕ → Type 0
Found ds n = (d : ParameterDef) × (find (is_pid_of n) ds ≡ some_def d)

finds_at : (x : ParameterDef) (xs : List ParameterDef) (n : ℕ) (here : Bool) → (x.pid == n) ≡ here → (list_any (λ d. d.pid == n) xs ≡ true → Found xs n) → (here || list_any (λ d. d.pid == n) xs) ≡ true → Found (x ∷ xs) n
finds_at x xs n true is rest some = (x, ap (λ (b : Bool). cond b (some_def x) (find (is_pid_of n) xs)) is)
finds_at x xs n false is rest some =
    let later = rest some in
    (later.0, ap (λ (b : Bool). cond b (some_def x) (find (is_pid_of n) xs)) is ∙ later.1)

finds : (ds : List ParameterDef) (n : ℕ) → list_any (λ d. d.pid == n) ds ≡ true → Found ds n
finds [] n some = absurd (never some)
finds (x ∷ xs) n some = finds_at x xs n (x.pid == n) refl (finds xs n) some

-- ---- the row of LOCK_PIN and of LOCK_STATE

abbrev IsUnknown : Profile → ℕ → Type 0
IsUnknown p n = (is_left_out p n ≡ false) × (access (row_of n) true Set ≡ Err UnknownPid)

unknown_pin : (p : Profile) → IsUnknown p 0x0640
unfolding row_of table
unknown_pin p = (refl, refl)

unknown_state : (p : Profile) → IsUnknown p 0x0641
unfolding row_of table
unknown_state p = (refl, refl)

pin_row : (p : Profile) (d : ParameterDef) → find (is_pid_of 0x0640) p.particulars.own ≡ some_def d → row_at p 0x0640 ≡ Some (added_row d)
pin_row p d e =
    let new = unknown_pin p in
    at_here p 0x0640 Set new.0 new.1 ∙ parameter_here p 0x0640 d refl (sym e)

-- ---- an accepted SET of LOCK_PIN keeps the new PIN

abbrev set_of : ParameterDef → Rights → Option Command
set_of d r = cond (has_set r) (takes_added (form_by r d.shape) (set_range d) (stored_by r d) d.pid) None

abbrev KeepsNew : (Entry → List ℕ) → List ℕ → Type 0
KeepsNew f bytes = (e : Entry) → has_key 0x0640 0 e ≡ true → f e ≡ new_pin bytes

read_at : (bytes : List ℕ) (w : Value) (b : Bool) → ((length bytes == 4) && nat_le (length bytes) 32) ≡ b → cond b (ok (Label bytes)) (Err FormatError) ≡ ok w → (length bytes ≡ 4) × (Label bytes ≡ w)
read_at bytes w true is e = (eqb-true (length bytes) 4 (both_true (length bytes == 4) (nat_le (length bytes) 32) is).0, ok_is (Label bytes) w e)
read_at bytes w false is e = absurd cc

four : (bytes : List ℕ) (w : Value) → read_as (sized 4) bytes ≡ ok w → (length bytes ≡ 4) × (Label bytes ≡ w)
four bytes w e = read_at bytes w ((length bytes == 4) && nat_le (length bytes) 32) refl e

stored_new : (pid n : ℕ) (e : Entry) (new other : List ℕ) → pid ≡ n → has_key n 0 e ≡ true → cond (has_key pid 0 e) new other ≡ new
stored_new pid n e new other same here = ap (λ (m : ℕ). cond (has_key m 0 e) new other) same ∙ ap (λ (b : Bool). cond b new other) here

by_rights : (d : ParameterDef) (bytes : List ℕ) (w : Value) (r : Rights) → d.shape ≡ shapes.Pin → d.pid ≡ 0x0640 → may_have rights.Both r ≡ true → read (set_of d r) bytes ≡ ok w → (length bytes ≡ 4) × ((spot : Spot) → KeepsNew (added_change (set_of d r) spot w) bytes)
by_rights d bytes w rights.Get shape at commands e = absurd cc
by_rights d bytes w rights.Set shape at commands e =
    let reads = four bytes w (subst (λ (s : Shape). read_as (form_taken s) bytes ≡ ok w) shape e) in
    (reads.0, λ spot x here. stored_new d.pid 0x0640 x (bytes_ordered d.shape w) _ at here ∙ ap (λ (s : Shape). bytes_ordered s w) shape ∙ ap (λ (v : Value). new_pin (slots_in v)) (sym reads.1))
by_rights d bytes w rights.Both shape at commands e =
    let reads = four bytes w (subst (λ (s : Shape). read_as (form_taken s) bytes ≡ ok w) shape e) in
    (reads.0, λ spot x here. ap (λ (s : Shape). cond (has_key d.pid (index_kept s w) x) (bytes_kept s w) x.bytes) shape ∙ stored_new d.pid 0x0640 x (bytes_kept shapes.Pin w) x.bytes at here ∙ ap (λ (v : Value). new_pin (slots_in v)) (sym reads.1))
by_rights d bytes w rights.Clear shape at commands e = absurd (never commands)

-- what an accepted SET of it says
record Accepts (p : Parameters) (bytes : List ℕ) (w : Value) : Type 0 where
  four_slots : length bytes ≡ 4
  keeps_new : KeepsNew (added_change (command_at p 0x0640 Set) (root_spot p) w) bytes

accepts : (p : Parameters) (sub : ℕ) (bytes : List ℕ) (w : Value) → HasPin p.profile → accepted p sub 0x0640 Set bytes ≡ ok w → Accepts p bytes w
unfolding accepted
accepts p sub bytes w pins e =
    let row : Option Row = row_at p.profile 0x0640 in
    let found_pin = finds p.profile.particulars.own 0x0640 pins.some in
    let d : ParameterDef = found_pin.0 in
    let is = found IfPin p.profile.particulars.own 0x0640 d pins.each found_pin.1 in
    let pin : IsPinDef d = is.0 (eq-eqb d.pid 0x0640 is.1) in
    let same : row ≡ Some (added_row d) = pin_row p.profile d found_pin.1 in
    let says = says_behind p sub row (unprotected p.profile p.added 0x0640 (command_in row Set) Set bytes) (read (command_in row Set) bytes) w e in
    let kept = by_rights d bytes w d.rights pin.shape is.1 pin.commands (subst (λ (o : Option Row). read (command_in o Set) bytes ≡ ok w) same says.read_is) in
    record { four_slots = kept.0; keeps_new = subst (λ (o : Option Row). KeepsNew (added_change (command_in o Set) (root_spot p) w) bytes) (sym same) (kept.1 (root_spot p)) }

front_two : (bytes : List ℕ) → length bytes ≡ 4 → length (new_pin bytes) ≡ 2
front_two bytes four_of = length-take-le 2 bytes (omega (arith, four_of))

-- ---- a SET leaves two slots

carried_fits : (p : Parameters) (sub : ℕ) (c : Option Command) (v : Value) → Fits p.added → Fits (update (added_change c (root_spot p) v) p.added) → (at_root all : Bool) → Fits (cond at_root (record p { root = written c v (root_spot p); added = added_written c v (root_spot p) }) (cond all (record p { subs = map (λ entries. written c v (sub_spot p entries)) p.subs }) (record p { subs = slice_set p.subs (sub - 1) (written c v (sub_spot p (slice_index_or p.subs (sub - 1) []))) }))).added
carried_fits p sub c v old new true all = new
carried_fits p sub c v old new false true = old
carried_fits p sub c v old new false false = old

either_fits : (first : Bool) (p q : Parameters) → Fits p.added → Fits q.added → Fits (cond first p q).added
either_fits true p q a b = a
either_fits false p q a b = b

of_result : (p : Parameters) (sub : ℕ) (c : Option Command) (r : Result Value Nack) → Fits p.added → ((w : Value) → r ≡ ok w → Fits (update (added_change c (root_spot p) w) p.added)) → Fits (after_accepted p sub c r).added
of_result p sub c (Err nack) fits each = fits
of_result p sub c (Ok w) fits each =
    either_fits (is_slow c) p (carried_out p sub c w) fits (carried_fits p sub c w fits (each w refl) (sub == 0) (is_all_call sub Set))

change_fits : (p : Parameters) (sub pid : ℕ) (bytes : List ℕ) (w : Value) (at : Bool) → (pid == 0x0640) ≡ at → HasPin p.profile → Fits p.added → accepted p sub pid Set bytes ≡ ok w → Fits (update (added_change (command_at p pid Set) (root_spot p) w) p.added)
change_fits p sub pid bytes w true is pins fits e =
    let same : pid ≡ 0x0640 = eqb-true pid 0x0640 is in
    let says = accepts p sub bytes w pins (subst (λ (n : ℕ). accepted p sub n Set bytes ≡ ok w) same e) in
    let two : LeavesTwo (added_change (command_at p 0x0640 Set) (root_spot p) w) = λ (x : Entry) (here : has_key 0x0640 0 x ≡ true) (old : length x.bytes ≡ 2). ap (λ (bs : List ℕ). length bs) (says.keeps_new x here) ∙ front_two bytes says.four_slots in
    subst (λ (n : ℕ). Fits (update (added_change (command_at p n Set) (root_spot p) w) p.added)) (sym same) (updated (added_change (command_at p 0x0640 Set) (root_spot p) w) p.added two fits)
change_fits p sub pid bytes w false is pins fits e =
    row_has (λ (row : Option Row). Fits (update (added_change (command_in row Set) (root_spot p) w) p.added)) (is_left_out p.profile pid) (row_of pid) (row_here p.profile pid)
    (updated (added_change (command_in None Set) (root_spot p) w) p.added (λ x here two. two) fits)
    (table_fits pid (root_spot p) w p.added pins.each fits)
    (λ none. updated (added_change (command_in (row_here p.profile pid) Set) (root_spot p) w) p.added (keeps_two (added_change (command_in (row_here p.profile pid) Set) (root_spot p) w) (of_added p.profile pid (row_here p.profile pid) refl (root_spot p) w 0x0640 is)) fits)

row_fits : (p : Parameters) (sub pid : ℕ) (bytes : List ℕ) → HasPin p.profile → Fits p.added → Fits (after_by_row p sub pid bytes).added
unfolding after_by_row
row_fits p sub pid bytes pins fits =
    of_result p sub (command_at p pid Set) (accepted p sub pid Set bytes) fits (λ w e. change_fits p sub pid bytes w (pid == 0x0640) refl pins fits e)

set_fits : (p : Parameters) (sub pid : ℕ) (bytes : List ℕ) → HasPin p.profile → Fits p.added → Fits (after_set p sub pid bytes).added
set_fits p sub pid bytes pins fits = after_either (λ (q : Parameters). Fits q.added) p sub pid bytes fits (λ is base. fits) (λ no. row_fits p sub pid bytes pins fits)

-- ---- so does all else

table_carried : (p : Parameters) (sub pid : ℕ) (v : Value) → HasPin p.profile → Fits p.added → Fits (carried_out p sub (command_of pid Set) v).added
table_carried p sub pid v pins fits =
    carried_fits p sub (command_of pid Set) v fits (table_fits pid (root_spot p) v p.added pins.each fits) (sub == 0) (is_all_call sub Set)

abbrev placed_as : ParameterDef → Shape → Value → Entry → List ℕ
placed_as d s v e = cond (has_key d.pid (index_kept s v) e) (bytes_placed s d v) e.bytes

either_two : (b : Bool) (new old : List ℕ) → length new ≡ 2 → length old ≡ 2 → length (cond b new old) ≡ 2
either_two true new old a c = a
either_two false new old a c = c

word_placed : (d : ParameterDef) (es : List Entry) (n : ℕ) (fit : Bool) → Fits es → Fits (option_map_or (λ v. update (placed_as d shapes.Pin v) es) (cond fit (Some (Word n)) None) es)
word_placed d es n true fits = updated (placed_as d shapes.Pin (Word n)) es (λ e here two. either_two (has_key d.pid 0 e) (word_slots n) e.bytes refl two) fits
word_placed d es n false fits = fits

other_placed : (d : ParameterDef) (s : Shape) (es : List Entry) (o : Option Value) → (d.pid == 0x0640) ≡ false → Fits es → Fits (option_map_or (λ v. update (placed_as d s v) es) o es)
other_placed d s es None other fits = fits
other_placed d s es (Some v) other fits =
    updated (placed_as d s v) es (λ e here two. ap (λ (b : Bool). length (cond (b && (e.index == index_kept s v)) (bytes_placed s d v) e.bytes)) (apart_test d.pid 0x0640 e.pid other (eqb-true e.pid 0x0640 (both_true (e.pid == 0x0640) (e.index == 0) here).0)) ∙ two) fits

def_placed : (p : Parameters) (d : ParameterDef) (bytes : List ℕ) (at : Bool) → (d.pid == 0x0640) ≡ at → IfPin d → Fits p.added → Fits (own_placed p d bytes).added
def_placed p d bytes true is pin fits =
    subst (λ (s : Shape). Fits (option_map_or (λ v. update (placed_as d s v) p.added) (value_of (placed_form s) bytes) p.added)) (sym (pin is).shape) (word_placed d p.added _ (has_length word (length bytes)) fits)
def_placed p d bytes false is pin fits = other_placed d d.shape p.added (value_of (placed_form d.shape) bytes) is fits

abbrev own_after : Parameters → List ℕ → Option ParameterDef → Parameters
own_after p bytes o = option_map_or (λ d. own_placed p d bytes) o p

one_placed : (p : Parameters) (bytes : List ℕ) (here : Bool) (d : ParameterDef) (rest : Option ParameterDef) → IfPin d → Fits p.added → Fits (own_after p bytes rest).added → Fits (own_after p bytes (cond here (Some d) rest)).added
one_placed p bytes true d rest pin fits later = def_placed p d bytes (d.pid == 0x0640) refl pin fits
one_placed p bytes false d rest pin fits later = later

found_placed : (p : Parameters) (bytes : List ℕ) (n : ℕ) (ds : List ParameterDef) → AllByRecursion IfPin ds → Fits p.added → Fits (own_after p bytes (find (is_pid_of n) ds)).added
found_placed p bytes n [] pins fits = fits
found_placed p bytes n (d ∷ ds) pins fits = one_placed p bytes (d.pid == n) d (find (is_pid_of n) ds) pins.0 fits (found_placed p bytes n ds pins.1 fits)

at_last : (p : Parameters) (bytes : List ℕ) (left tabled root : Bool) (o : Option ParameterDef) → Fits p.added → Fits (own_after p bytes o).added → Fits (own_after p bytes (cond left None (cond tabled None (cond root o None)))).added
at_last p bytes true tabled root o fits own = fits
at_last p bytes false true root o fits own = fits
at_last p bytes false false true o fits own = own
at_last p bytes false false false o fits own = fits

value_fits : (p : Parameters) (sub pid : ℕ) (r : Result Value Nack) → HasPin p.profile → Fits p.added → Fits (after_value p sub pid r).added
value_fits p sub pid (Err nack) pins fits = fits
value_fits p sub pid (Ok v) pins fits = table_carried p sub pid v pins fits

place_fits : (p : Parameters) (sub pid : ℕ) (bytes : List ℕ) → HasPin p.profile → Fits p.added → Fits (after_place p sub pid bytes).added
unfolding after_place
place_fits p sub pid bytes pins fits =
    let own = at_last p bytes (is_left_out p.profile pid) (is_some (row_of pid)) (sub == 0) (find (is_pid_of pid) p.profile.particulars.own) fits (found_placed p bytes pid p.profile.particulars.own pins.each fits) in
    let stored = either_fits (keeps (command_of pid Set)) (after_value p sub pid (read (command_of pid Set) bytes)) _ (value_fits p sub pid (read (command_of pid Set) bytes) pins fits) fits in
    either_fits (is_some (place_refusal p sub pid bytes)) p _ fits (either_fits (not (sets p sub pid)) (own_after p bytes (own_at p sub pid)) _ own stored)

record Holds (profile : Profile) (p : Parameters) : Type 0 where
  same : p.profile ≡ profile
  fits : Fits p.added

stays : (profile : Profile) (p : Parameters) (s : Step) → HasPin profile → Holds profile p → Holds profile (after_step p s)
unfolding after_commit after_change powered_on
stays profile p (set sub pid bytes) pins held = record { same = (set_keeps_devices p sub pid bytes).profile ∙ held.same; fits = set_fits p sub pid bytes (subst HasPin (sym held.same) pins) held.fits }
stays profile p (place sub pid bytes) pins held = record { same = (place_keeps_devices p sub pid bytes).profile ∙ held.same; fits = place_fits p sub pid bytes (subst HasPin (sym held.same) pins) held.fits }
stays profile p (commit w Done) pins held = record { same = (commit_keeps_devices p w Done).profile ∙ held.same; fits = table_carried p w.sub w.pid (Byte w.arg) (subst HasPin (sym held.same) pins) held.fits }
stays profile p (commit w (Reading v)) pins held = record { same = held.same; fits = held.fits }
stays profile p (commit w (Failed severity id v1 v2)) pins held = held
stays profile p (change c) pins held = record { same = (panel_keeps_devices p c).profile ∙ held.same; fits = either_fits (can_change p c) (carried_out p 0 (command_of (changed_pid c) Set) (changed_value c)) p (table_carried p 0 (changed_pid c) (changed_value c) (subst HasPin (sym held.same) pins) held.fits) held.fits }
stays profile p power pins held = record { same = held.same; fits = held.fits }

all_stay : (profile : Profile) (p : Parameters) (steps : List Step) → HasPin profile → Holds profile p → Holds profile (fold after_step p steps)
all_stay profile p [] pins held = held
all_stay profile p (s ∷ steps) pins held = all_stay profile (after_step p s) steps pins (stays profile p s pins held)

starts : (profile : Profile) → HasPin profile → Holds profile (parameters_of profile)
unfolding parameters_of
starts profile pins = record { same = refl; fits = fits_at_start profile pins }

holds_after : (profile : Profile) (steps : List Step) → HasPin profile → Holds profile (values_after profile steps)
holds_after profile steps pins = all_stay profile (parameters_of profile) steps pins (starts profile pins)

-- ---- the new PIN is kept

first_new : (f : Entry → List ℕ) (e : Entry) (es : List Entry) (new : List ℕ) (here : Bool) → has_key 0x0640 0 e ≡ here → ((x : Entry) → has_key 0x0640 0 x ≡ true → f x ≡ new) → (here || list_any (has_key 0x0640 0) es) ≡ true → (list_any (has_key 0x0640 0) es ≡ true → lookup (update f es) 0x0640 0 ≡ new) → cond here (f e) (lookup (update f es) 0x0640 0) ≡ new
first_new f e es new true is each some later = each e is
first_new f e es new false is each some later = later some

new_kept : (f : Entry → List ℕ) (es : List Entry) (new : List ℕ) → ((x : Entry) → has_key 0x0640 0 x ≡ true → f x ≡ new) → list_any (has_key 0x0640 0) es ≡ true → lookup (update f es) 0x0640 0 ≡ new
new_kept f [] new each some = absurd (never some)
new_kept f (e ∷ es) new each some = first_new f e es new (has_key 0x0640 0 e) refl each some (new_kept f es new each)

quick_only : (p q : Parameters) (slow : Bool) (new : List ℕ) → slow ≡ false → pin_kept q.added ≡ new → pin_kept (cond slow p q).added ≡ new
quick_only p q slow new e kept = ap (λ (b : Bool). pin_kept (cond b p q).added) e ∙ kept

result_kept : (p q : Parameters) (bytes reply : List ℕ) (r : Result Value Nack) → accepted p 0 0x0640 Set bytes ≡ r → HasPin p.profile → Fits p.added → is_slow (command_at p 0x0640 Set) ≡ false → verdict q 0 0x0640 (command_at p 0x0640 Set) Set r ≡ Reply reply → pin_kept (after_accepted p 0 (command_at p 0x0640 Set) r).added ≡ new_pin bytes
result_kept p q bytes reply (Err nack) e pins fits quick told = absurd cc
result_kept p q bytes reply (Ok w) e pins fits quick told =
    let says = accepts p 0 bytes w pins e in
    let c : Option Command = command_at p 0x0640 Set in
    quick_only p (carried_out p 0 c w) (is_slow c) (new_pin bytes) quick (new_kept (added_change c (root_spot p) w) p.added (new_pin bytes) says.keeps_new fits.some)

pin_quick : (p : Profile) → HasPin p → is_slow (command_in (row_at p 0x0640) Set) ≡ false
pin_quick p pins =
    let found_pin = finds p.particulars.own 0x0640 pins.some in
    ap (λ (o : Option Row). is_slow (command_in o Set)) (pin_row p found_pin.0 found_pin.1) ∙ quick_row found_pin.0 (has_set (found_pin.0).rights)
  where
    quick_row : (d : ParameterDef) (has : Bool) → is_slow (cond has (takes_added (set_form d) (set_range d) (stored_by d.rights d) d.pid) None) ≡ false
    quick_row d true = refl
    quick_row d false = refl

by_row_kept : (p : Parameters) (bytes reply : List ℕ) → HasPin p.profile → Fits p.added → answer_by_row p 0 0x0640 bytes ≡ Reply reply → pin_kept (after_by_row p 0 0x0640 bytes).added ≡ new_pin bytes
unfolding after_by_row answer_by_row
by_row_kept p bytes reply pins fits told = result_kept p (after_by_row p 0 0x0640 bytes) bytes reply (accepted p 0 0x0640 Set bytes) refl pins fits (pin_quick p.profile pins) told

pub new_pin_is_kept : NewPinIsKept
new_pin_is_kept profile steps bytes reply good some told =
    let pins = pins_of profile good.own some in
    let held = holds_after profile steps pins in
    let p : Parameters = values_after profile steps in
    ap (λ (q : Parameters). pin_kept q.added) (row_after p 0 0x0640 bytes refl)
    ∙ by_row_kept p bytes reply (subst HasPin (sym held.same) pins) held.fits (sym (row_answer p 0 0x0640 bytes refl) ∙ told)

-- ---- the PIN that is kept opens

and_false : (b : Bool) → (b && false) ≡ false
and_false true = refl
and_false false = refl

one_free : (l : Lock) (state : ℕ) → (l.pid == 0x0641) ≡ false → is_lock_of state 0x0641 l ≡ false
one_free l state other = ap (λ (x : Bool). (l.state == state) && x) other ∙ and_false (l.state == state)

both_free : (a b : Bool) → a ≡ false → b ≡ false → (a || b) ≡ false
both_free true b e f = e
both_free false b e f = f

-- no lock of a good profile is one of LOCK_STATE
free : (without : List ℕ) (ds : List ParameterDef) (ls : List Lock) (state : ℕ) → AllByRecursion (λ l. IsTrue (can_hold without ds l)) ls → list_any (is_lock_of state 0x0641) ls ≡ false
free without ds [] state all = refl
free without ds (l ∷ ls) state all =
    let other : (l.pid == 0x0641) ≡ false = is_not (l.pid == 0x0641) (both_true (not (l.pid == 0x0641)) (sets_of_table without l.pid || sets_of_own ds l.pid) all.0).0 in
    both_free (is_lock_of state 0x0641 l) (list_any (is_lock_of state 0x0641) ls) (one_free l state other) (free without ds ls state all.1)

lock_shape : (s : Shape) → is_lock s ≡ true → s ≡ shapes.Lock
lock_shape shapes.Byte e = absurd (never e)
lock_shape shapes.Word e = absurd (never e)
lock_shape shapes.Long e = absurd (never e)
lock_shape shapes.SignedByte e = absurd (never e)
lock_shape shapes.SignedWord e = absurd (never e)
lock_shape shapes.SignedLong e = absurd (never e)
lock_shape shapes.Text e = absurd (never e)
lock_shape (shapes.Bits n) e = absurd (never e)
lock_shape (shapes.Slots n) e = absurd (never e)
lock_shape shapes.Choice e = absurd (never e)
lock_shape shapes.Names e = absurd (never e)
lock_shape shapes.Rates e = absurd (never e)
lock_shape shapes.Scenes e = absurd (never e)
lock_shape shapes.Lock e = refl
lock_shape shapes.Pin e = absurd (never e)
lock_shape shapes.Block e = absurd (never e)

-- LOCK_STATE of a good profile
record IsLockDef (d : ParameterDef) : Type 0 where
  shape : d.shape ≡ shapes.Lock
  commands : may_have rights.Both d.rights ≡ true

lock_is : (d : ParameterDef) → follows d ≡ true → d.pid ≡ 0x0641 → IsLockDef d
lock_is d good at =
    let line : follows_at 0x0641 d ≡ true = subst (λ (n : ℕ). follows_at n d ≡ true) at (both_true (follows_at d.pid d) (not (is_only_standards d) || is_of_standards d.pid) good).0 in
    let says = both_true (may_have rights.Both d.rights) (lock d) (both_true (may_have rights.Both d.rights && lock d) true line).0 in
    record { shape = lock_shape d.shape (both_true (is_lock d.shape) (int_eq d.low (pos 0)) says.1).0; commands = says.0 }

form_as : (r : Rights) (s : Shape) → may_have rights.Both r ≡ true → form_by r s ≡ form_taken s
form_as rights.Get s e = refl
form_as rights.Set s e = refl
form_as rights.Both s e = refl
form_as rights.Clear s e = absurd (never e)

takes_as : (r : Rights) (d : ParameterDef) (pin : List ℕ) (v : Value) → may_have rights.Both r ≡ true → taken_by r d pin v ≡ taken_as d.shape d pin v
takes_as rights.Get d pin v e = refl
takes_as rights.Set d pin v e = refl
takes_as rights.Both d pin v e = refl
takes_as rights.Clear d pin v e = absurd (never e)

-- what is handed in to open
record Opens (d : ParameterDef) (pin : List ℕ) (state : ℕ) : Type 0 where
  reads : value_of (set_form d) (pin ++ state ∷ []) ≡ Some (Label (pin ++ state ∷ []))
  taken : takes d pin (Label (pin ++ state ∷ [])) ≡ true

opens : (d : ParameterDef) (pin : List ℕ) (state : ℕ) → length pin ≡ 2 → IsLockDef d → is_within d (Byte state) ≡ true → Opens d pin state
opens d [] state two is within = absurd (omega (arith, two))
opens d (a ∷ []) state two is within = absurd (omega (arith, two))
opens d (a ∷ b ∷ []) state two is within =
    let bytes : List ℕ = a ∷ b ∷ state ∷ [] in
    let known : knows_pin (a ∷ b ∷ []) bytes ≡ true = rw (eq-eqb a a refl, eq-eqb b b refl) refl in
    record {
      reads = ap (λ (f : Form). value_of f bytes) (form_as d.rights d.shape is.commands ∙ ap form_taken is.shape);
      taken = takes_as d.rights d (a ∷ b ∷ []) (Label bytes) is.commands ∙ ap (λ (s : Shape). taken_as s d (a ∷ b ∷ []) (Label bytes)) is.shape ∙ ap (λ (k : Bool). k && is_within d (Byte state)) known ∙ within;
    }
opens d (a ∷ b ∷ c ∷ rest) state two is within = absurd (omega (arith, two))

needs_pin : (d : ParameterDef) (ds : List ParameterDef) → can_open ds d ≡ true → d.pid ≡ 0x0641 → has_pin ds ≡ true
needs_pin d ds can at =
    let here : (not (d.pid == 0x0641) || (has_get d.rights && has_pin ds)) ≡ (has_get d.rights && has_pin ds) = ap (λ (b : Bool). not b || (has_get d.rights && has_pin ds)) (eq-eqb d.pid 0x0641 at) in
    (both_true (has_get d.rights) (has_pin ds) (sym here ∙ can)).1

neither : (b : Bool) → b ≡ false → (b || b) ≡ false
neither true e = absurd (never (sym e))
neither false e = refl

replies_by_row : (p : Parameters) (d : ParameterDef) (state : ℕ) → find (is_pid_of 0x0641) p.profile.particulars.own ≡ some_def d → IsLockDef d → has_set d.rights ≡ true → is_within d (Byte state) ≡ true → length (pin_kept p.added) ≡ 2 → is_set_locked p.profile.particulars.locks p.added 0x0641 ≡ false → answer_by_row p 0 0x0641 (pin_kept p.added ++ state ∷ []) ≡ Reply []
replies_by_row p d state found_state is can within two unlocked =
    let bytes : List ℕ = pin_kept p.added ++ state ∷ [] in
    let new = unknown_state p.profile in
    let here : row_here p.profile 0x0641 ≡ Some (added_row d) = parameter_here p.profile 0x0641 d refl (sym found_state) in
    let opening = opens d (pin_kept p.added) state two is within in
    let protected : Bool = is_read_only p.profile.particulars.own 0x0641 bytes || is_set_locked p.profile.particulars.locks p.added 0x0641 in
    let handed = set_hands d protected (is_no_pin 0x0641 bytes) (root_spot p) bytes (Label bytes) can unlocked refl opening.reads opening.taken in
    let taken_here : handed_here (root_spot p) 0x0641 (Some (added_row d)) Set bytes ≡ ok (Label bytes) = sym (handed_is p 0x0641 bytes d protected (is_no_pin 0x0641 bytes) (refl, refl)) ∙ handed in
    sym (set_here_replies p 0x0641 bytes new.0 new.1 (ap (λ (row : Option Row). is_ok (handed_here (root_spot p) 0x0641 row Set bytes)) here ∙ ap is_ok taken_here))

pub kept_pin_opens : KeptPinOpens
kept_pin_opens profile steps d state good found_state can within =
    let own : List ParameterDef = profile.particulars.own in
    let line = found (λ (x : ParameterDef). IsTrue (follows x)) own 0x0641 d (recursion_from_All (λ (x : ParameterDef). IsTrue (follows x)) own good.own.standards) found_state in
    let opened = found (λ (x : ParameterDef). IsTrue (can_open own x)) own 0x0641 d (recursion_from_All (λ (x : ParameterDef). IsTrue (can_open own x)) own good.locks.opened) found_state in
    let pins = pins_of profile good.own (needs_pin d own opened.0 opened.1) in
    let held = holds_after profile steps pins in
    let p : Parameters = values_after profile steps in
    let locks = recursion_from_All (λ (l : Lock). IsTrue (can_hold profile.particulars.without.items own l)) profile.particulars.locks good.locks.held in
    let unlocked : is_locked p.profile.particulars.locks p.added 0x0641 ≡ false = ap (λ (x : Profile). is_locked x.particulars.locks p.added 0x0641) held.same ∙ free profile.particulars.without.items own profile.particulars.locks (lock_state p.added) locks in
    row_answer p 0 0x0641 (pin_kept p.added ++ state ∷ []) refl
    ∙ replies_by_row p d state (ap (λ (x : Profile). find (is_pid_of 0x0641) x.particulars.own) held.same ∙ found_state) (lock_is d line.0 line.1) can within (two_slots p.added held.fits) (neither (is_locked p.profile.particulars.locks p.added 0x0641) unlocked)
