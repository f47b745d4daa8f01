-- What is kept of LOCK_PIN has two slots, whatever becomes of the values.
use Rattle.std.proofs.Common.{◌≡◌, ℕ, zero, suc, ◌≤◌, ◌==◌, ◌&&◌, ◌||◌, not, Bool, true, false, cond, List, [], ◌∷◌, ◌++◌, length, Option, Some, None, Result, Ok, Err, refl, sym, ap, subst, ◌∙◌, IsTrue, arith, pos}
use Rattle.std.specs.Prelude.{find, nat_le, take, is_some}
use Rattle.std.specs.List.{AllByRecursion, list_any, list_all}
use Rattle.std.specs.Option.{option_map_or}
use Rattle.std.specs.Ordering.{int_eq}
use Rattle.std.proofs.lemmas.Bool.{eqb-true, ne_eqb, eq-eqb}
use Rattle.std.proofs.lemmas.List.{length-take-le}
use Rattle.std.proofs.lemmas.List.Elements.{recursion_from_All}
use Rattle.std.proofs.lemmas.List.Folds.{list_any-append}
use Rattle.rdm_profile.specs.declared.profile.own.ParameterDef.{ParameterDef}
use Rattle.rdm_profile.specs.declared.profile.own.Rights.{Rights}
use Rattle.rdm_profile.specs.declared.profile.own.Rights.TheVariants as rights
use Rattle.rdm_profile.specs.declared.profile.own.Shape.{Shape}
use Rattle.rdm_profile.specs.declared.profile.own.Shape.TheVariants as shapes
use Rattle.rdm_profile.specs.declared.profile.Profile.{Profile}
use Rattle.rdm_profile.specs.declared.value.Value.{Value}
use Rattle.rdm_profile.specs.declared.value.Value.TheVariants.{Word, Label}
use Rattle.rdm_added.specs.Added.{start_in, set_back_in, added_set_back}
use Rattle.rdm_profile.specs.Forms.{word, has_length, value_of, value_in}
use Rattle.rdm_added.specs.Scenes.{scenes_to, scenes_by, scene_at_start}
use Rattle.rdm_profile.specs.Choices.{greatest}
use Rattle.rdm_profile.specs.Locks.{has_pin}
use Rattle.rdm_added.specs.Locking.{locks_in, lock_state}
use Rattle.rdm_added.specs.Map.{Entry, entry, has_key, lookup, update}
use Rattle.rdm_profile.specs.OwnParameters.{is_order, can_start, form_of, is_within}
use Rattle.rdm_added.specs.Parameters.{no_orders, kept_at_start, added_at_start}
use Rattle.rdm_profile.specs.Profiles.{AreGoodParameters}
use Rattle.rdm_added.specs.Spot.{Spot}
use Rattle.rdm_profile.specs.Standards.{is_pin, pin, may_have, follows, follows_at, is_only_standards, is_of_standards}
use Rattle.rdm_table.specs.declared.kind.Verb.TheVariants.{Set}
use Rattle.rdm_table.specs.Table.Rows.{command_of}
use Rattle.rdm_table.specs.Table.Uses.{added_change}
use Rattle.rdm_table.proofs.FactoryRows.{left_by_others, set_back_by_factory}
use Rattle.rdm_table.proofs.Bools.{both_true}
use Rattle.rdm_params.proofs.OwnKeys.{Keeps}

never : false ≡ true → ⊥
never e = cc

-- ---- entries whose PIN has two slots

abbrev pub Two : Entry → Type 0
Two e = has_key 0x0640 0 e ≡ true → length e.bytes ≡ 2

pub record Fits (es : List Entry) : Type 0 where
  pub each : AllByRecursion Two es
  pub some : list_any (has_key 0x0640 0) es ≡ true

-- a change that leaves two slots there
abbrev pub LeavesTwo : (Entry → List ℕ) → Type 0
LeavesTwo f = (e : Entry) → has_key 0x0640 0 e ≡ true → length e.bytes ≡ 2 → length (f e) ≡ 2

each_left : (f : Entry → List ℕ) (es : List Entry) → LeavesTwo f → AllByRecursion Two es → AllByRecursion Two (update f es)
each_left f [] two all = tt
each_left f (e ∷ es) two all = ((λ (here : has_key 0x0640 0 e ≡ true). two e here (all.0 here)), each_left f es two all.1)

keys_stay : (f : Entry → List ℕ) (es : List Entry) → list_any (has_key 0x0640 0) (update f es) ≡ list_any (has_key 0x0640 0) es
keys_stay f [] = refl
keys_stay f (e ∷ es) = ap (λ (b : Bool). has_key 0x0640 0 e || b) (keys_stay f es)

pub updated : (f : Entry → List ℕ) (es : List Entry) → LeavesTwo f → Fits es → Fits (update f es)
updated f es two fits = record { each = each_left f es two fits.each; some = keys_stay f es ∙ fits.some }

first_two : (e : Entry) (es : List Entry) (here : Bool) → has_key 0x0640 0 e ≡ here → (here || list_any (has_key 0x0640 0) es) ≡ true → Two e → (list_any (has_key 0x0640 0) es ≡ true → length (lookup es 0x0640 0) ≡ 2) → length (cond here e.bytes (lookup es 0x0640 0)) ≡ 2
first_two e es true is some one later = one is
first_two e es false is some one later = later some

two_kept : (es : List Entry) → AllByRecursion Two es → list_any (has_key 0x0640 0) es ≡ true → length (lookup es 0x0640 0) ≡ 2
two_kept [] all some = absurd (never some)
two_kept (e ∷ es) all some = first_two e es (has_key 0x0640 0 e) refl some all.0 (two_kept es all.1)

pub two_slots : (es : List Entry) → Fits es → length (lookup es 0x0640 0) ≡ 2
two_slots es fits = two_kept es fits.each fits.some

pub keeps_two : (f : Entry → List ℕ) → Keeps 0x0640 f → LeavesTwo f
keeps_two f keeps e here two =
    ap (λ (bytes : List ℕ). length bytes) (keeps e (eqb-true e.pid 0x0640 (both_true (e.pid == 0x0640) (e.index == 0) here).0)) ∙ two

-- ---- LOCK_PIN of a good profile

pub record IsPinDef (d : ParameterDef) : Type 0 where
  pub shape : d.shape ≡ shapes.Pin
  pub start : length d.start ≡ 2
  pub commands : may_have rights.Both d.rights ≡ true

abbrev pub IfPin : ParameterDef → Type 0
IfPin d = (d.pid == 0x0640) ≡ true → IsPinDef d

pin_shape : (s : Shape) → is_pin s ≡ true → s ≡ shapes.Pin
pin_shape shapes.Byte e = absurd (never e)
pin_shape shapes.Word e = absurd (never e)
pin_shape shapes.Long e = absurd (never e)
pin_shape shapes.SignedByte e = absurd (never e)
pin_shape shapes.SignedWord e = absurd (never e)
pin_shape shapes.SignedLong e = absurd (never e)
pin_shape shapes.Text e = absurd (never e)
pin_shape (shapes.Bits n) e = absurd (never e)
pin_shape (shapes.Slots n) e = absurd (never e)
pin_shape shapes.Choice e = absurd (never e)
pin_shape shapes.Names e = absurd (never e)
pin_shape shapes.Rates e = absurd (never e)
pin_shape shapes.Scenes e = absurd (never e)
pin_shape shapes.Lock e = absurd (never e)
pin_shape shapes.Pin e = refl
pin_shape shapes.Block e = absurd (never e)

sized : (b : Bool) (d : ParameterDef) (v : Value) → option_map_or (is_within d) (cond b (Some v) None) false ≡ true → b ≡ true
sized true d v e = refl
sized false d v e = absurd (never e)

start_two : (d : ParameterDef) → d.shape ≡ shapes.Pin → can_start d ≡ true → length d.start ≡ 2
start_two d shape starts =
    let as_word : option_map_or (is_within d) (value_of word d.start) false ≡ true = subst (λ (s : Shape). option_map_or (is_within d) (value_of (form_of s) d.start) false ≡ true) shape starts in
    eqb-true (length d.start) 2 (sized (has_length word (length d.start)) d (value_in word d.start) as_word)

pin_is : (d : ParameterDef) → follows d ≡ true → can_start d ≡ true → IfPin d
pin_is d good starts at =
    let line : follows_at 0x0640 d ≡ true = subst (λ (n : ℕ). follows_at n d ≡ true) (eqb-true d.pid 0x0640 at) (both_true (follows_at d.pid d) (not (is_only_standards d) || is_of_standards d.pid) good).0 in
    let says = both_true (may_have rights.Both d.rights) (pin d) (both_true (may_have rights.Both d.rights && pin d) true line).0 in
    let low : Bool = int_eq d.low (pos 0) in
    let shape : d.shape ≡ shapes.Pin = pin_shape d.shape (both_true (is_pin d.shape) low (both_true (is_pin d.shape && low) (int_eq d.high (pos 9999)) says.1).0).0 in
    record { shape = shape; start = start_two d shape starts; commands = says.0 }

each_is : (ds : List ParameterDef) → AllByRecursion (λ d. IsTrue (follows d)) ds → AllByRecursion (λ d. IsTrue (can_start d)) ds → AllByRecursion IfPin ds
each_is [] good starts = tt
each_is (d ∷ ds) good starts = (pin_is d good.0 starts.0, each_is ds good.1 starts.1)

pub record HasPin (profile : Profile) : Type 0 where
  pub each : AllByRecursion IfPin profile.particulars.own
  pub some : has_pin profile.particulars.own ≡ true

pub pins_of : (profile : Profile) → AreGoodParameters profile.particulars.own profile.particulars.choices → has_pin profile.particulars.own ≡ true → HasPin profile
pins_of profile good some = record {
  each = each_is profile.particulars.own (recursion_from_All (λ (d : ParameterDef). IsTrue (follows d)) profile.particulars.own good.standards) (recursion_from_All (λ (d : ParameterDef). IsTrue (can_start d)) profile.particulars.own good.starts);
  some = some;
}

-- ---- at the start

all_append : (front back : List Entry) → AllByRecursion Two front → AllByRecursion Two back → AllByRecursion Two (front ++ back)
all_append [] back a b = b
all_append (e ∷ es) back a b = (a.0, all_append es back a.1 b)

elsewhere : (pid : ℕ) (index : ℕ) (bytes : List ℕ) → (index == 0) ≡ false → Two (entry pid index bytes)
elsewhere pid index bytes other here = absurd (never (sym other ∙ (both_true (pid == 0x0640) (index == 0) here).1))

orders_two : (order : Bool) (d : ParameterDef) → AllByRecursion Two (cond order (entry d.pid 1 (0 ∷ []) ∷ []) [])
orders_two true d = (elsewhere d.pid 1 (0 ∷ []) refl, tt)
orders_two false d = tt

scenes_two : (d : ParameterDef) (n : ℕ) → AllByRecursion Two (scenes_to d n)
scenes_two d zero = tt
scenes_two d (suc n) =
    all_append (scenes_to d n) (scene_at_start d (suc n) ∷ []) (scenes_two d n) (elsewhere d.pid (suc n) (scene_at_start d (suc n)).bytes (ne_eqb (suc n) 0 (λ (none : suc n ≡ 0). omega (arith, none))), tt)

shape_two : (s : Shape) (d : ParameterDef) → AllByRecursion Two (scenes_by s d)
shape_two shapes.Byte d = tt
shape_two shapes.Word d = tt
shape_two shapes.Long d = tt
shape_two shapes.SignedByte d = tt
shape_two shapes.SignedWord d = tt
shape_two shapes.SignedLong d = tt
shape_two shapes.Text d = tt
shape_two (shapes.Bits n) d = tt
shape_two (shapes.Slots n) d = tt
shape_two shapes.Choice d = tt
shape_two shapes.Names d = tt
shape_two shapes.Rates d = tt
shape_two shapes.Scenes d = scenes_two d (greatest d)
shape_two shapes.Lock d = tt
shape_two shapes.Pin d = tt
shape_two shapes.Block d = tt

kept_two : (d : ParameterDef) → IfPin d → AllByRecursion Two (kept_at_start d)
kept_two d pin = (
  λ (here : has_key 0x0640 0 (entry d.pid 0 d.start) ≡ true). (pin (both_true (d.pid == 0x0640) (0 == 0) here).0).start,
  all_append (no_orders d) (scenes_by d.shape d) (orders_two (is_order d.rights) d) (shape_two d.shape d),
)

each_starts : (ds : List ParameterDef) → AllByRecursion IfPin ds → AllByRecursion Two (added_at_start ds)
each_starts [] pins = tt
each_starts (d ∷ ds) pins = all_append (kept_at_start d) (added_at_start ds) (kept_two d pins.0) (each_starts ds pins.1)

or_right : (a b : Bool) → b ≡ true → (a || b) ≡ true
or_right true b e = refl
or_right false b e = e

here_or_later : (here : Bool) (more back : List Entry) → (here || list_any (has_key 0x0640 0) back) ≡ true → ((here && true) || list_any (has_key 0x0640 0) (more ++ back)) ≡ true
here_or_later true more back some = refl
here_or_later false more back some =
    list_any-append (has_key 0x0640 0) more back ∙ or_right (list_any (has_key 0x0640 0) more) (list_any (has_key 0x0640 0) back) some

or_later : (here a b : Bool) → (a ≡ true → b ≡ true) → (here || a) ≡ true → (here || b) ≡ true
or_later true a b each some = refl
or_later false a b each some = each some

some_starts : (ds : List ParameterDef) → has_pin ds ≡ true → list_any (has_key 0x0640 0) (added_at_start ds) ≡ true
some_starts [] some = absurd (never some)
some_starts (d ∷ ds) some =
    here_or_later (d.pid == 0x0640) (no_orders d ++ scenes_by d.shape d) (added_at_start ds) (or_later (d.pid == 0x0640) (has_pin ds) (list_any (has_key 0x0640 0) (added_at_start ds)) (some_starts ds) some)

pub fits_at_start : (profile : Profile) → HasPin profile → Fits (added_at_start profile.particulars.own)
fits_at_start profile pins = record { each = each_starts profile.particulars.own pins.each; some = some_starts profile.particulars.own pins.some }

-- ---- what a SET of the table makes of it

start_of : (d : ParameterDef) (found : Option ParameterDef) (bytes : List ℕ) (resets at : Bool) → (d.pid == 0x0640) ≡ at → IfPin d → length (option_map_or (λ x. x.start) found bytes) ≡ 2 → length (option_map_or (λ x. x.start) (cond (resets && at) (Some d) found) bytes) ≡ 2
start_of d found bytes true true is pin rest = (pin is).start
start_of d found bytes true false is pin rest = rest
start_of d found bytes false at is pin rest = rest

back_two : (ds : List ParameterDef) (bytes : List ℕ) → AllByRecursion IfPin ds → length bytes ≡ 2 → length (start_in ds 0x0640 bytes) ≡ 2
back_two [] bytes pins two = two
back_two (d ∷ ds) bytes pins two =
    start_of d (find (λ x. x.resets && (x.pid == 0x0640)) ds) bytes d.resets (d.pid == 0x0640) refl pins.0 (back_two ds bytes pins.1 two)

either_two : (locked : Bool) (kept back : List ℕ) → length kept ≡ 2 → length back ≡ 2 → length (cond locked kept back) ≡ 2
either_two true kept back two also = two
either_two false kept back two also = also

set_back_two : (spot : Spot) (v : Value) → AllByRecursion IfPin spot.profile.particulars.own → LeavesTwo (added_set_back spot v)
set_back_two spot v pins e here two =
    let own : List ParameterDef = spot.profile.particulars.own in
    let at = both_true (e.pid == 0x0640) (e.index == 0) here in
    let back : length (cond (e.index == 0) (start_in own e.pid e.bytes) e.bytes) ≡ 2 =
    ap (λ (b : Bool). length (cond b (start_in own e.pid e.bytes) e.bytes)) at.1 ∙ ap (λ (n : ℕ). length (start_in own n e.bytes)) (eqb-true e.pid 0x0640 at.0) ∙ back_two own e.bytes pins two
    in
    either_two (locks_in spot.profile.particulars.locks (lock_state spot.added) e.pid) e.bytes (cond (e.index == 0) (start_in own e.pid e.bytes) e.bytes) two back

table_at : (pid : ℕ) (spot : Spot) (v : Value) (es : List Entry) (factory : Bool) → (pid == 0x0090) ≡ factory → AllByRecursion IfPin spot.profile.particulars.own → Fits es → Fits (update (added_change (command_of pid Set) spot v) es)
table_at pid spot v es true is pins fits =
    subst Fits (set_back_by_factory pid true spot v es (update (added_set_back spot v) es) (sym is) refl refl) (updated (added_set_back spot v) es (set_back_two spot v pins) fits)
table_at pid spot v es false is pins fits = subst Fits (left_by_others pid false spot v es (sym is) refl) fits

pub table_fits : (pid : ℕ) (spot : Spot) (v : Value) (es : List Entry) → AllByRecursion IfPin spot.profile.particulars.own → Fits es → Fits (update (added_change (command_of pid Set) spot v) es)
table_fits pid spot v es pins fits = table_at pid spot v es (pid == 0x0090) refl pins fits
