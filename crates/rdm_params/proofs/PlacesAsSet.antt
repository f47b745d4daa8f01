-- What a SET would make of the values, placing the same data makes of them.
use Rattle.std.proofs.Common.{◌≡◌, ◌≢◌, ℕ, ◌-◌, ◌==◌, ◌&&◌, ◌||◌, not, Bool, true, false, cond, List, [], ◌∷◌, map, Option, Some, None, Result, Ok, Err, refl, sym, ap, subst, ◌∙◌}
use Rattle.std.specs.Prelude.{slice_get, option_to_list, is_some, is_ok}
use Rattle.std.specs.List.{list_all}
use Rattle.std.specs.Option.{option_map_or}
use Rattle.std.proofs.lemmas.Bool.{ne_eqb, and_from}
use Rattle.rdm_frame.specs.declared.nack.Nack.{Nack}
use Rattle.rdm_frame.specs.declared.nack.Nack.TheVariants.{DataOutOfRange, SubDeviceOutOfRange}
use Rattle.rdm_table.specs.declared.kind.Verb.TheVariants.{Get, Set}
use Rattle.rdm_commands.specs.declared.placing.PlaceError.{PlaceError}
use Rattle.rdm_commands.specs.declared.placing.PlaceError.TheVariants.{NoDevice, OutOfRange}
use Rattle.rdm_commands.specs.declared.jobs.ask.Ask.{Ask}
use Rattle.rdm_table.specs.declared.way.Way.{Way}
use Rattle.rdm_table.specs.declared.way.Way.TheVariants.{AtOnce, ByJob, FromQueue, FromStatus, Clears}
use Rattle.rdm_commands.specs.declared.jobs.work.Work.{Work}
use Rattle.rdm_commands.specs.declared.verdict.Verdict.TheVariants.{Reply}
use Rattle.rdm_profile.specs.declared.value.Value.{Value}
use Rattle.rdm_table.specs.Table.Rows.{command_of, Command, Row, table, row_of, row_in, row_or, row_at, is_left_out, added_rows, command_in}
use Rattle.rdm_commands.specs.Commands.Commands.{command_at, accepted, is_block, after_by_row, answer_by_row, answered, verdict, carried_out, addressed, is_some_device, is_all_call, root_spot, sub_spot, known, unprotected, taken, after_accepted, check, ◌>>=◌}
use Rattle.rdm_commands.specs.Commands.Placing.{device, has_set, value_refusal, place_refusal, after_value, after_place}
use Rattle.rdm_added.specs.Parameters.{Parameters}
use Rattle.rdm_added.specs.Spot.{Spot}
use Rattle.rdm_params.specs.Laws.{PlacesAsSet}
use Rattle.rdm_table.specs.Table.Uses.{access, read, is_by_job, is_slow, way_of, in_range_of, told_beside, can_tell, keeps}
use Rattle.rdm_commands.proofs.BlockRows.{row_after, row_answer}
use Rattle.rdm_table.proofs.Bools.{both_true}

-- ---- what an accepted SET says

abbrev pub ok : Value → Result Value Nack
ok v = Ok v

ok_is : (a b : Value) → ok a ≡ ok b → a ≡ b
ok_is a b e = cc

-- the steps of acceptance, each of which was passed
record Passed (here within : Bool) (access : Result (Unit {0}) Nack) : Type 0 where
  some : here ≡ true
  allowed : is_ok access ≡ true
  within_range : within ≡ true

passed_at : (here : Bool) (access : Result (Unit {0}) Nack) (within fits : Bool) (v w : Value) → ((check here SubDeviceOutOfRange >>= (λ u. access)) >>= (λ u. (check within DataOutOfRange >>= (λ u. check fits SubDeviceOutOfRange)) >>= (λ u. ok v))) ≡ ok w → Passed here within access × (v ≡ w)
passed_at false access within fits v w e = absurd cc
passed_at true (Err nack) within fits v w e = absurd cc
passed_at true (Ok u) false fits v w e = absurd cc
passed_at true (Ok u) true false v w e = absurd cc
passed_at true (Ok u) true true v w e = (record { some = refl; allowed = refl; within_range = refl }, ok_is v w e)

head_all : (f : Spot → Bool) (spots : List Spot) → is_some_device spots ≡ true → list_all f spots ≡ true → option_map_or f (slice_get spots 0) false ≡ true
head_all f [] some all = absurd cc
head_all f (s ∷ spots) some all = (both_true (f s) (list_all f spots) all).0

-- ---- the answer tells that it was accepted

no_reply : (way : Way) (body : List ℕ) (job : Work) (ask : Ask) (reply : List ℕ) → answered way body job ask ≡ Reply reply → is_by_job way ≡ false
no_reply AtOnce body job ask reply e = refl
no_reply (ByJob slow) body job ask reply e = absurd cc
no_reply FromQueue body job ask reply e = refl
no_reply FromStatus body job ask reply e = refl
no_reply Clears body job ask reply e = refl

-- ---- the device

device_is : (p : Parameters) (sub : ℕ) → (sub == 0xFFFF) ≡ false → device p sub ≡ slice_get (addressed p sub Set) 0
device_is p sub e =
    ap (λ (all : Bool). cond all None (slice_get (addressed p sub Get) 0)) e
    ∙ ap (λ (all : Bool). slice_get (cond (sub == 0) (root_spot p ∷ []) (cond all (map (sub_spot p) p.subs) (map (sub_spot p) (option_to_list (slice_get p.subs (sub - 1)))))) 0) (sym e)

-- ---- placing

none_refused : (some has kept : Bool) (own x y : Option PlaceError) → some ≡ true → has ≡ true → kept ≡ true → x ≡ None → cond (not some) (Some NoDevice) (cond (not has) own (cond kept x y)) ≡ None
none_refused false has kept own x y e f g h = absurd cc
none_refused true false kept own x y e f g h = absurd cc
none_refused true true false own x y e f g h = absurd cc
none_refused true true true own x y e f g h = h

-- what a SET may ask for, a GET may tell
told_too : (c : Option Command) (w : Value) (o : Option Spot) → option_map_or (λ spot. in_range_of c spot w) o false ≡ true → option_map_or (λ spot. can_tell c spot w) o false ≡ true
told_too c w None e = e
told_too c w (Some spot) e = ap (λ (b : Bool). b || told_beside c spot w) e

value_fits : (p : Parameters) (sub pid : ℕ) (r : Result Value Nack) (w : Value) → r ≡ ok w → option_map_or (λ spot. can_tell (command_of pid Set) spot w) (device p sub) false ≡ true → value_refusal p sub pid r ≡ None
value_fits p sub pid r w e fits =
    ap (value_refusal p sub pid) e ∙ ap (λ (within : Bool). cond within None (Some OutOfRange)) fits

after_is : (p own new other : Parameters) (refusal : Option PlaceError) (has kept : Bool) → refusal ≡ None → has ≡ true → kept ≡ true → cond (is_some refusal) p (cond (not has) own (cond kept new other)) ≡ new
after_is p own new other refusal has kept e h f =
    ap (λ (o : Option PlaceError). cond (is_some o) p (cond (not has) own (cond kept new other))) e ∙ ap (λ (b : Bool). cond (not b) own (cond kept new other)) h ∙ ap (λ (k : Bool). cond k new other) f

-- ---- together

err_is_no_value : (known : Result (Unit {0}) Nack) (nack : Nack) (w : Value) → (known >>= (λ u. Err nack)) ≡ ok w → ⊥
err_is_no_value (Err other) nack w e = cc
err_is_no_value (Ok u) nack w e = cc

-- what a SET of a row says that is accepted with this value
pub record Says (p : Parameters) (sub : ℕ) (row : Option Row) (read' : Result Value Nack) (w : Value) : Type 0 where
  pub read_is : read' ≡ ok w
  pub some : is_some_device (addressed p sub Set) ≡ true
  pub allowed : is_ok (access row (sub == 0) Set) ≡ true
  pub within : list_all (λ spot. in_range_of (command_in row Set) spot w) (addressed p sub Set) ≡ true

says : (p : Parameters) (sub : ℕ) (row : Option Row) (r : Result Value Nack) (w : Value) → (known p sub row Set >>= (λ u. r >>= (λ value. taken p sub (command_in row Set) Set value))) ≡ ok w → Says p sub row r w
says p sub row (Err nack) w e = absurd (err_is_no_value (known p sub row Set) nack w e)
says p sub row (Ok v) w e =
    let passed = passed_at (is_some_device (addressed p sub Set)) (access row (sub == 0) Set) (list_all (λ spot. in_range_of (command_in row Set) spot v) (addressed p sub Set)) (not (is_all_call sub Set && is_slow (command_in row Set))) v w e in
    record {
      read_is = ap ok passed.1;
      some = passed.0.some;
      allowed = passed.0.allowed;
      within = subst (λ (x : Value). list_all (λ spot. in_range_of (command_in row Set) spot x) (addressed p sub Set) ≡ true) passed.1 passed.0.within_range;
    }

-- the same where a step before it can refuse
pub says_behind : (p : Parameters) (sub : ℕ) (row : Option Row) (free : Result (Unit {0}) Nack) (r : Result Value Nack) (w : Value) → (known p sub row Set >>= (λ u. free >>= (λ x. r >>= (λ value. taken p sub (command_in row Set) Set value)))) ≡ ok w → Says p sub row r w
says_behind p sub row (Err nack) r w e = absurd (err_is_no_value (known p sub row Set) nack w e)
says_behind p sub row (Ok u) r w e = says p sub row r w e

-- a SET of the table that keeps its data, and that these devices have, isn't left out
kept_row : (left : Bool) (first later : Option Row) (is_root : Bool) → keeps (command_in first Set) ≡ true → is_ok (access (cond left None (row_or first later)) is_root Set) ≡ true → (left ≡ false) × (cond left None (row_or first later) ≡ first)
kept_row true first later is_root kept e = absurd cc
kept_row false None later is_root kept e = absurd cc
kept_row false (Some r) later is_root kept e = (refl, refl)

not_left : (left : Bool) → left ≡ false → not left ≡ true
not_left left e = ap not e

placed_as : (p : Parameters) (sub pid : ℕ) (bytes : List ℕ) (w : Value) → (sub == 0xFFFF) ≡ false → is_left_out p.profile pid ≡ false → keeps (command_of pid Set) ≡ true → is_slow (command_of pid Set) ≡ false → Says p sub (row_of pid) (read (command_of pid Set) bytes) w → (place_refusal p sub pid bytes ≡ None) × (after_place p sub pid bytes ≡ after_accepted p sub (command_of pid Set) (ok w))
unfolding after_place place_refusal
placed_as p sub pid bytes w apart stays kept quick is =
    let device_at = device_is p sub apart in
    let c = command_of pid Set in
    let there : is_some (device p sub) ≡ true = ap is_some device_at ∙ is.some in
    let fits : option_map_or (λ spot. in_range_of c spot w) (device p sub) false ≡ true = ap (λ (o : Option Spot). option_map_or (λ spot. in_range_of c spot w) o false) device_at ∙ head_all (λ spot. in_range_of c spot w) (addressed p sub Set) is.some is.within in
    let has : has_set p sub pid ≡ true = and_from (is_ok (access (row_of pid) (sub == 0) Set)) (not (is_left_out p.profile pid)) is.allowed (not_left (is_left_out p.profile pid) stays) in
    let none : place_refusal p sub pid bytes ≡ None = none_refused (is_some (device p sub)) (has_set p sub pid) (keeps c) _ _ _ there has kept (value_fits p sub pid (read c bytes) w is.read_is (told_too c w (device p sub) fits)) in
    (none, after_is p _ (after_value p sub pid (read c bytes)) _ (place_refusal p sub pid bytes) (has_set p sub pid) (keeps c) none has kept ∙ ap (after_value p sub pid) is.read_is ∙ ap (λ (slow : Bool). cond slow p (carried_out p sub c w)) (sym quick))

-- what is said of the SET of the devices
abbrev Placed : Parameters → ℕ → ℕ → List ℕ → Option Command → Result Value Nack → Type 0
Placed p sub pid bytes command r = (place_refusal p sub pid bytes ≡ None) × (after_place p sub pid bytes ≡ after_accepted p sub command r)

of_accepted : (p : Parameters) (sub pid : ℕ) (bytes reply : List ℕ) (r : Result Value Nack) → accepted p sub pid Set bytes ≡ r → (sub == 0xFFFF) ≡ false → keeps (command_of pid Set) ≡ true → verdict (after_accepted p sub (command_at p pid Set) r) sub pid (command_at p pid Set) Set r ≡ Reply reply → Placed p sub pid bytes (command_at p pid Set) r
unfolding accepted
of_accepted p sub pid bytes reply (Err nack) e apart kept told = absurd cc
of_accepted p sub pid bytes reply (Ok w) e apart kept told =
    let row : Option Row = row_at p.profile pid in
    let at = says_behind p sub row (unprotected p.profile p.added pid (command_in row Set) Set bytes) (read (command_in row Set) bytes) w e in
    let is = kept_row (is_left_out p.profile pid) (row_of pid) (row_in (added_rows p.profile) pid) (sub == 0) kept at.allowed in
    let same : row ≡ row_of pid = is.1 in
    let quick : is_slow (command_in row Set) ≡ false = no_reply (way_of (command_in row Set)) _ _ _ reply told in
    let placed = placed_as p sub pid bytes w apart is.0 kept (ap (λ (x : Option Row). is_slow (command_in x Set)) (sym same) ∙ quick) (subst (λ (x : Option Row). Says p sub x (read (command_in x Set) bytes) w) same at) in
    subst (λ (x : Option Row). Placed p sub pid bytes (command_in x Set) (ok w)) (sym same) placed

placed_by_row : (p : Parameters) (sub pid : ℕ) (bytes reply : List ℕ) → sub ≢ 0xFFFF → keeps (command_of pid Set) ≡ true → answer_by_row p sub pid bytes ≡ Reply reply → (place_refusal p sub pid bytes ≡ None) × (after_place p sub pid bytes ≡ after_by_row p sub pid bytes)
unfolding after_by_row answer_by_row
placed_by_row p sub pid bytes reply apart kept told =
    of_accepted p sub pid bytes reply (accepted p sub pid Set bytes) refl (ne_eqb sub 0xFFFF apart) kept told

-- the table keeps no block
block_kept : keeps (command_of 0x0140 Set) ≡ false
unfolding row_of table
block_kept = refl

never : false ≡ true → ⊥
never e = cc

no_block : (pid : ℕ) → keeps (command_of pid Set) ≡ true → is_block pid ≡ false
no_block pid kept = ne_eqb pid 0x0140 (λ (same : pid ≡ 0x0140). never (sym block_kept ∙ ap (λ (n : ℕ). keeps (command_of n Set)) (sym same) ∙ kept))

pub places_as_set : PlacesAsSet
places_as_set p sub pid bytes reply apart kept told =
    let other = no_block pid kept in
    let row = placed_by_row p sub pid bytes reply apart kept (sym (row_answer p sub pid bytes other) ∙ told) in
    (row.0, row.1 ∙ sym (row_after p sub pid bytes other))
