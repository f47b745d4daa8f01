-- Orders are counted, and so told.
use Rattle.std.proofs.Common.{◌≡◌, ◌≢◌, ℕ, ◌+◌, ◌%◌, ◌-◌, ◌<◌, ◌==◌, ◌&&◌, ◌||◌, not, Bool, true, false, cond, List, [], ◌∷◌, ◌++◌, map, Option, Some, None, Result, Ok, Err, refl, sym, ap, subst, ◌∙◌, arith, inl, inr}
use Rattle.std.specs.Prelude.{slice_index_or, slice_set}
use Rattle.std.specs.List.{list_any, AllByRecursion}
use Rattle.std.proofs.Math.Nat.{mod-lt, mod-eq_of_lt}
use Rattle.std.proofs.lemmas.Bool.{cases_lt, eq-eqb, eqb-true, ne_eqb}
use Rattle.std.proofs.lemmas.List.Elements.{All-from_recursion}
use Rattle.std.proofs.lemmas.List.Folds.{list_any-append}
use Rattle.rdm_frame.specs.declared.nack.Nack.{Nack}
use Rattle.rdm_table.specs.declared.kind.Verb.TheVariants.{Set}
use Rattle.rdm_commands.specs.declared.verdict.Verdict.TheVariants.{Reply}
use Rattle.rdm_profile.specs.declared.profile.own.ParameterDef.{ParameterDef}
use Rattle.rdm_profile.specs.declared.profile.own.Rights.{Rights}
use Rattle.rdm_profile.specs.declared.profile.own.Rights.TheVariants as rights
use Rattle.rdm_profile.specs.declared.value.Value.{Value}
use Rattle.rdm_added.specs.Added.{counted, bytes_ordered, order_stored, set_form, set_range, stored_by}
use Rattle.rdm_added.specs.Scenes.{scenes_by}
use Rattle.rdm_added.specs.Map.{Entry, entry, has_key, lookup, update}
use Rattle.rdm_profile.specs.OwnParameters.{has_set, is_order}
use Rattle.rdm_added.specs.Parameters.{Parameters, kept_at_start, added_at_start, parameters_of}
use Rattle.rdm_added.specs.Spot.{Spot}
use Rattle.rdm_commands.specs.Commands.Commands.{command_at, accepted, after_by_row, after_accepted, answer_by_row, is_block, carried_out, is_all_call, root_spot, sub_spot, verdict}
use Rattle.rdm_table.specs.Table.Uses.{written, added_written, added_change, is_slow}
use Rattle.rdm_params.specs.Laws.{is_counted, OrdersAreTold, OrdersAreCounted, CountsStay}
use Rattle.rdm_table.specs.Table.Rows.{Command, Row, row_at, added_row, takes_added, command_in}
use Rattle.rdm_profile.specs.Standards.{may_have, is_shown, is_only_standards, is_of_standards, follows_at, follows, is_block as is_block_shape}
use Rattle.rdm_commands.proofs.BlockRows.{row_after, row_answer, after_either}

-- ---- the next count is another

next_differs : (n : ℕ) → (n + 1) % 256 ≡ n → ⊥
next_differs n e =
    let small : (n + 1) % 256 < 256 = mod-lt (n + 1) (omega arith) in
    elim (cases_lt (n + 1) 256) [
      | inl below ↦ (let same : (n + 1) % 256 ≡ n + 1 = mod-eq_of_lt below in omega (arith, e, same))
      | inr ge ↦ (let last : n ≡ 255 = omega (arith, small, e, ge) in last_differs (subst (λ (k : ℕ). (k + 1) % 256 ≡ k) last e))
    ]
  where
    last_differs : (255 + 1) % 256 ≡ 255 → ⊥
    last_differs h = omega (arith, h)

abbrev head_or_0 : List ℕ → ℕ
head_or_0 [] = 0
head_or_0 (x ∷ xs) = x

abbrev is_one : List ℕ → Bool
is_one [] = false
is_one (x ∷ []) = true
is_one (x ∷ y ∷ ys) = false

never : false ≡ true → ⊥
never e = cc

count_differs : (bytes : List ℕ) → counted bytes ≡ bytes → ⊥
count_differs [] e = never (sym (ap is_one e))
count_differs (n ∷ []) e = next_differs n (ap head_or_0 e)
count_differs (n ∷ m ∷ ms) e = never (sym (ap is_one e))

-- ---- an order changes its count

pick : (pid first more : Bool) (a c kept : List ℕ) → (first && more) ≡ false → (pid && more) ≡ true → cond (pid && first) a (cond (pid && more) c kept) ≡ c
pick true true true a c kept apart here = absurd (never (sym apart))
pick true true false a c kept apart here = absurd (never here)
pick true false true a c kept apart here = refl
pick true false false a c kept apart here = absurd (never here)
pick false first more a c kept apart here = absurd (never here)

never_both : (a b : Bool) → (a ≡ true → b ≡ true → ⊥) → (a && b) ≡ false
never_both true true apart = absurd (apart refl refl)
never_both true false apart = refl
never_both false b apart = refl

zero_or_one : (n : ℕ) → ((n == 0) && (n == 1)) ≡ false
zero_or_one n = never_both (n == 0) (n == 1) (λ (is : (n == 0) ≡ true) (one : (n == 1) ≡ true). let at : n ≡ 0 = eqb-true n 0 is in let also : n ≡ 1 = eqb-true n 1 one in omega (arith, at, also))

order_counts : (d : ParameterDef) (spot : Spot) (v : Value) (e : Entry) → has_key d.pid 1 e ≡ true → order_stored d spot v e ≡ counted (lookup spot.added d.pid 1)
order_counts d spot v e here = pick (e.pid == d.pid) (e.index == 0) (e.index == 1) (bytes_ordered d.shape v) (counted (lookup spot.added d.pid 1)) e.bytes (zero_or_one e.index) here

abbrev head_bytes : List Entry → List ℕ
head_bytes [] = []
head_bytes (e ∷ es) = e.bytes

abbrev rest_of : List Entry → List Entry
rest_of [] = []
rest_of (e ∷ es) = es

at_or_behind : (e : Entry) (es : List Entry) (f : Entry → List ℕ) (pid : ℕ) (count : List ℕ) (b : Bool) → has_key pid 1 e ≡ b → (b || list_any (has_key pid 1) es) ≡ true → update f (e ∷ es) ≡ e ∷ es → ((x : Entry) → has_key pid 1 x ≡ true → f x ≡ count) → (list_any (has_key pid 1) es ≡ true → count ≡ lookup es pid 1) → count ≡ cond b e.bytes (lookup es pid 1)
at_or_behind e es f pid count true is any same each later = sym (each e is) ∙ ap head_bytes same
at_or_behind e es f pid count false is any same each later = later any

-- where a change leaves all, what it makes of a counted entry is what stands there
at_first : (es : List Entry) (f : Entry → List ℕ) (pid : ℕ) (count : List ℕ) → list_any (has_key pid 1) es ≡ true → update f es ≡ es → ((e : Entry) → has_key pid 1 e ≡ true → f e ≡ count) → count ≡ lookup es pid 1
at_first [] f pid count some same each = absurd (never some)
at_first (e ∷ es) f pid count some same each =
    at_or_behind e es f pid count (has_key pid 1 e) refl some same each (λ (any : list_any (has_key pid 1) es ≡ true). at_first es f pid count any (ap rest_of same) each)

is_set : (r : Rights) → is_order r ≡ true → r ≡ rights.Set
is_set rights.Get e = absurd (never e)
is_set rights.Set e = refl
is_set rights.Both e = absurd (never e)
is_set rights.Clear e = absurd (never e)

abbrev set_of : ParameterDef → Rights → Option Command
set_of d r = cond (has_set r) (takes_added (set_form d) (set_range d) (stored_by r d) d.pid) None

order_set : (d : ParameterDef) → is_order d.rights ≡ true → (added_row d).set ≡ set_of d rights.Set
order_set d order = ap (set_of d) (is_set d.rights order)

abbrev reply_is : Parameters → ParameterDef → Result Value Nack → List ℕ → Type 0
reply_is q d r reply = verdict q 0 d.pid (set_of d rights.Set) Set r ≡ Reply reply

told_with : (p q : Parameters) (d : ParameterDef) (r : Result Value Nack) (reply : List ℕ) → is_counted p d.pid ≡ true → reply_is q d r reply → after_accepted p 0 (set_of d rights.Set) r ≡ p → ⊥
told_with p q d (Err nack) reply some answer same = absurd cc
told_with p q d (Ok v) reply some answer same =
    let count : List ℕ = counted (lookup p.added d.pid 1) in
    count_differs (lookup p.added d.pid 1) (at_first p.added (order_stored d (root_spot p) v) d.pid count some (ap (λ (x : Parameters). x.added) same) (order_counts d (root_spot p) v))

told_by_row : (p : Parameters) (d : ParameterDef) (bytes reply : List ℕ) → row_at p.profile d.pid ≡ Some (added_row d) → is_order d.rights ≡ true → is_counted p d.pid ≡ true → answer_by_row p 0 d.pid bytes ≡ Reply reply → after_by_row p 0 d.pid bytes ≢ p
unfolding after_by_row answer_by_row
told_by_row p d bytes reply row order some answer same =
    let command : command_at p d.pid Set ≡ set_of d rights.Set = ap (λ (r : Option Row). command_in r Set) row ∙ order_set d order in
    let r : Result Value Nack = accepted p 0 d.pid Set bytes in
    told_with p (after_by_row p 0 d.pid bytes) d r reply some (subst (λ (c : Option Command). verdict (after_by_row p 0 d.pid bytes) 0 d.pid c Set r ≡ Reply reply) command answer) (subst (λ (c : Option Command). after_accepted p 0 c r ≡ p) command same)

-- a block of a good profile is no order
both_first : (a b : Bool) → (a && b) ≡ true → a ≡ true
both_first true b e = refl
both_first false b e = e

both_second : (a b : Bool) → (a && b) ≡ true → b ≡ true
both_second true b e = e
both_second false b e = absurd (never e)

shown_or_order : (r : Rights) → is_shown r ≡ true → is_order r ≡ true → ⊥
shown_or_order rights.Get e order = never order
shown_or_order rights.Set e order = never e
shown_or_order rights.Both e order = never order
shown_or_order rights.Clear e order = never order

block_is_shown : (d : ParameterDef) → follows_at 0x0140 d ≡ true → is_shown d.rights ≡ true
block_is_shown d e =
    both_second (is_block_shape d.shape) (is_shown d.rights) (both_second (may_have rights.Both d.rights) (is_block_shape d.shape && is_shown d.rights) (both_first (may_have rights.Both d.rights && (is_block_shape d.shape && is_shown d.rights)) true e))

no_block : (d : ParameterDef) → follows d ≡ true → is_order d.rights ≡ true → is_block d.pid ≡ false
no_block d good order =
    ne_eqb d.pid 0x0140 (λ (same : d.pid ≡ 0x0140). shown_or_order d.rights (block_is_shown d (subst (λ (n : ℕ). follows_at n d ≡ true) same (both_first (follows_at d.pid d) (not (is_only_standards d) || is_of_standards d.pid) good))) order)

pub orders_are_told : OrdersAreTold
orders_are_told p d bytes reply row good order some answer same =
    let other = no_block d good order in
    told_by_row p d bytes reply row order some (sym (row_answer p 0 d.pid bytes other) ∙ answer) (sym (row_after p 0 d.pid bytes other) ∙ same)

-- ---- from the start

abbrev Counted : List Entry → ParameterDef → Type 0
Counted es d = is_order d.rights ≡ true → list_any (has_key d.pid 1) es ≡ true

or_right : (a b : Bool) → b ≡ true → (a || b) ≡ true
or_right true b e = refl
or_right false b e = e

or_left : (a b : Bool) → a ≡ true → (a || b) ≡ true
or_left true b e = refl
or_left false b e = absurd (never e)

behind : (front back : List Entry) (ds : List ParameterDef) → AllByRecursion (Counted back) ds → AllByRecursion (Counted (front ++ back)) ds
behind front back [] all = tt
behind front back (d ∷ ds) all =
    ((λ (order : is_order d.rights ≡ true). list_any-append (has_key d.pid 1) front back ∙ or_right (list_any (has_key d.pid 1) front) (list_any (has_key d.pid 1) back) (all.0 order)), behind front back ds all.1)

self_key : (n : ℕ) → (n == n) ≡ true
self_key n = eq-eqb n n refl

counted_here : (d : ParameterDef) (r : Rights) (rest : List Entry) → is_order r ≡ true → list_any (has_key d.pid 1) (entry d.pid 0 d.start ∷ (cond (is_order r) (entry d.pid 1 (0 ∷ []) ∷ []) [] ++ rest)) ≡ true
counted_here d rights.Get rest e = absurd (never e)
counted_here d rights.Set rest e = rw (self_key d.pid) refl
counted_here d rights.Both rest e = absurd (never e)
counted_here d rights.Clear rest e = absurd (never e)

all_counted : (ds : List ParameterDef) → AllByRecursion (Counted (added_at_start ds)) ds
all_counted [] = tt
all_counted (d ∷ ds) =
    ((λ (order : is_order d.rights ≡ true). list_any-append (has_key d.pid 1) (kept_at_start d) (added_at_start ds) ∙ or_left (list_any (has_key d.pid 1) (kept_at_start d)) (list_any (has_key d.pid 1) (added_at_start ds)) (counted_here d d.rights (scenes_by d.shape d) order)), behind (kept_at_start d) (added_at_start ds) ds (all_counted ds))

pub orders_are_counted : OrdersAreCounted
unfolding parameters_of
orders_are_counted p = All-from_recursion (Counted (added_at_start p.particulars.own)) p.particulars.own (all_counted p.particulars.own)

-- ---- and after any SET

pub update_counts : (f : Entry → List ℕ) (es : List Entry) (pid : ℕ) → list_any (has_key pid 1) (update f es) ≡ list_any (has_key pid 1) es
update_counts f [] pid = refl
update_counts f (e ∷ es) pid = ap (λ (b : Bool). has_key pid 1 e || b) (update_counts f es pid)

unless_slow : (p new : Parameters) (order : ℕ) (slow : Bool) → is_counted new order ≡ is_counted p order → is_counted (cond slow p new) order ≡ is_counted p order
unless_slow p new order true same = refl
unless_slow p new order false same = same

pub stays_at : (p : Parameters) (sub order : ℕ) (command : Option Command) (v : Value) (at_root all : Bool) → is_counted (cond at_root (record p { root = written command v (root_spot p); added = added_written command v (root_spot p) }) (cond all (record p { subs = map (λ entries. written command v (sub_spot p entries)) p.subs }) (record p { subs = slice_set p.subs (sub - 1) (written command v (sub_spot p (slice_index_or p.subs (sub - 1) []))) }))) order ≡ is_counted p order
stays_at p sub order command v true all = update_counts (added_change command (root_spot p) v) p.added order
stays_at p sub order command v false true = refl
stays_at p sub order command v false false = refl

after_counts : (p : Parameters) (sub order : ℕ) (command : Option Command) (r : Result Value Nack) → is_counted (after_accepted p sub command r) order ≡ is_counted p order
after_counts p sub order command (Err nack) = refl
after_counts p sub order command (Ok v) = unless_slow p (carried_out p sub command v) order (is_slow command) (stays_at p sub order command v (sub == 0) (is_all_call sub Set))

row_counts : (p : Parameters) (sub pid order : ℕ) (bytes : List ℕ) → is_counted (after_by_row p sub pid bytes) order ≡ is_counted p order
unfolding after_by_row
row_counts p sub pid order bytes = after_counts p sub order (command_at p pid Set) (accepted p sub pid Set bytes)

pub counts_stay : CountsStay
counts_stay p sub pid order bytes =
    after_either (λ (q : Parameters). is_counted q order ≡ is_counted p order) p sub pid bytes refl (λ is base. refl) (λ no. row_counts p sub pid order bytes)
