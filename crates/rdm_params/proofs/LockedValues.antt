-- No SET changes a value of a parameter that the lock state locks.
use Rattle.std.proofs.Common.{◌≡◌, ℕ, ◌==◌, ◌&&◌, ◌||◌, Bool, true, false, cond, List, [], ◌∷◌, ◌++◌, Option, Some, None, Result, Ok, Err, refl, sym, ap, subst, ◌∙◌}
use Rattle.std.specs.List.{list_any}
use Rattle.std.proofs.lemmas.Bool.{eqb-true}
use Rattle.rdm_frame.specs.declared.nack.Nack.{Nack}
use Rattle.rdm_frame.specs.declared.nack.Nack.TheVariants.{UnknownPid, SubDeviceOutOfRange}
use Rattle.rdm_profile.specs.declared.value.Value.{Value}
use Rattle.rdm_device.specs.Columns.Changes.{unless_locked}
use Rattle.rdm_device.specs.Columns.Replies.{factory_pids, reset_pids}
use Rattle.rdm_added.specs.Locking.{is_locked, value_set, is_set_locked}
use Rattle.rdm_added.specs.Map.{Entry}
use Rattle.rdm_added.specs.Parameters.{Parameters}
use Rattle.rdm_profile.specs.declared.profile.Profile.{Profile}
use Rattle.rdm_table.specs.declared.kind.Verb.TheVariants.{Set}
use Rattle.rdm_commands.specs.Commands.Added.{row_here}
use Rattle.rdm_table.specs.Table.Rows.{command_of, Command, Row, row_of, row_at, table, is_left_out, command_in}
use Rattle.rdm_commands.specs.Commands.Commands.{command_at, accepted, unprotected, read_data, after_by_row, after_accepted, after_set, is_block, carried_out, addressed, root_spot, check, is_some_device, ◌>>=◌}
use Rattle.rdm_params.specs.Laws.{SameAt, LockedValuesStay, keys_written, keys_of_row}
use Rattle.rdm_table.specs.Table.Uses.{access, is_slow, change, added_change}
use Rattle.rdm_commands.proofs.AddedRows.{row_has}
use Rattle.rdm_commands.proofs.BlockRows.{row_after}
use Rattle.rdm_params.proofs.Locked.{lock_keeps, row_keeps}
use Rattle.rdm_params.proofs.OwnKeys.{Keeps, lookup-update, changes_its_keys}

never : false ≡ true → ⊥
never e = cc

same : (p : Parameters) (key index : ℕ) → SameAt key index p p
same p key index = record { root = refl; added = refl; subs = λ k. refl }

-- ---- what FACTORY_DEFAULTS changes at the root

locked_stays : (locked : Bool) (kept back : List ℕ) → locked ≡ true → cond locked kept back ≡ kept
locked_stays true kept back e = refl
locked_stays false kept back e = absurd (never e)

either_is : (here : Bool) (x y : List ℕ) → x ≡ y → cond here x y ≡ y
either_is true x y e = e
either_is false x y e = refl

-- whether a SET of the root leaves the values at a key
record LeavesKey (p : Parameters) (key : ℕ) (command : Option Command) : Type 0 where
  pub table : (v : Value) → Keeps key (change command (root_spot p) v)
  pub added : (v : Value) → Keeps key (added_change command (root_spot p) v)

table_leaves : (p : Parameters) (key : ℕ) → is_locked p.profile.particulars.locks p.added key ≡ true → LeavesKey p key (command_of 0x0090 Set)
unfolding row_of table
table_leaves p key locked = record {
  table = λ v e at. either_is (list_any (λ pid. (e.pid == pid) && (e.index == 0)) factory_pids) (unless_locked (root_spot p) e _) e.bytes (locked_stays (is_locked p.profile.particulars.locks p.added e.pid) e.bytes _ (ap (is_locked p.profile.particulars.locks p.added) at ∙ locked));
  added = λ v e at. locked_stays (is_locked p.profile.particulars.locks p.added e.pid) e.bytes _ (ap (is_locked p.profile.particulars.locks p.added) at ∙ locked);
}

is_some_row : Option Row → Bool
is_some_row None = false
is_some_row (Some r) = true

there_is : is_some_row (row_of 0x0090) ≡ true
unfolding row_of table is_some_row
there_is = refl

nowhere : row_of 0x0090 ≡ None → ⊥
unfolding is_some_row
nowhere none = never (ap is_some_row (sym none) ∙ there_is)

defaults_leave : (p : Parameters) (key : ℕ) → is_locked p.profile.particulars.locks p.added key ≡ true → LeavesKey p key (command_at p 0x0090 Set)
defaults_leave p key locked =
    row_has (λ (row : Option Row). LeavesKey p key (command_in row Set)) (is_left_out p.profile 0x0090) (row_of 0x0090) (row_here p.profile 0x0090)
    (record { table = λ v e at. refl; added = λ v e at. refl }) (table_leaves p key locked) (λ none. absurd (nowhere none))

choose : (Q : Parameters → Type 0) (b : Bool) (x y : Parameters) → b ≡ true → Q x → Q (cond b x y)
choose Q true x y e q = q
choose Q false x y e q = absurd (never e)

either : (Q : Parameters → Type 0) (b : Bool) (x y : Parameters) → Q x → Q y → Q (cond b x y)
either Q true x y one other = one
either Q false x y one other = other

carried_leaves : (p : Parameters) (sub : ℕ) (command : Option Command) (key index : ℕ) (v : Value) → (sub == 0) ≡ true → LeavesKey p key command → SameAt key index p (carried_out p sub command v)
carried_leaves p sub command key index v at_root leaves =
    choose (SameAt key index p) (sub == 0) _ _ at_root
    (record {
      root = lookup-update key index (change command (root_spot p) v) p.root (leaves.table v);
      added = lookup-update key index (added_change command (root_spot p) v) p.added (leaves.added v);
      subs = λ k. refl;
    })

read_leaves : (p : Parameters) (sub : ℕ) (command : Option Command) (key index : ℕ) (read : Result Value Nack) → (sub == 0) ≡ true → LeavesKey p key command → SameAt key index p (after_accepted p sub command read)
read_leaves p sub command key index (Err nack) at_root leaves = same p key index
read_leaves p sub command key index (Ok v) at_root leaves =
    either (SameAt key index p) (is_slow command) p (carried_out p sub command v) (same p key index) (carried_leaves p sub command key index v at_root leaves)

-- ---- and at a sub-device, where it is refused

not_below : access (row_of 0x0090) false Set ≡ Err UnknownPid
unfolding row_of table
not_below = refl

refused_below : (p : Parameters) → access (row_at p.profile 0x0090) false Set ≡ Err UnknownPid
refused_below p =
    row_has (λ (row : Option Row). access row false Set ≡ Err UnknownPid) (is_left_out p.profile 0x0090) (row_of 0x0090) (row_here p.profile 0x0090)
    refl not_below (λ none. absurd (nowhere none))

known_err : (here : Bool) (r : Result (Unit {0}) Nack) → r ≡ Err UnknownPid → (nack : Nack) × ((check here SubDeviceOutOfRange >>= (λ u. r)) ≡ Err nack)
known_err true r e = (UnknownPid, e)
known_err false r e = (SubDeviceOutOfRange, refl)

below_err : (p : Parameters) (sub : ℕ) (bytes : List ℕ) → (sub == 0) ≡ false → (nack : Nack) × (accepted p sub 0x0090 Set bytes ≡ Err nack)
unfolding accepted
below_err p sub bytes below =
    let here : Bool = is_some_device (addressed p sub Set) in
    let known = known_err here (access (row_at p.profile 0x0090) (sub == 0) Set) (ap (λ (b : Bool). access (row_at p.profile 0x0090) b Set) below ∙ refused_below p) in (
      known.0,
      ap (λ (r : Result (Unit {0}) Nack). r >>= (λ u. unprotected p.profile p.added 0x0090 (command_at p 0x0090 Set) Set bytes >>= (λ w. read_data p sub (command_at p 0x0090 Set) Set bytes))) known.1,
    )

defaults_at : (p : Parameters) (sub : ℕ) (bytes : List ℕ) (key index : ℕ) (at_root : Bool) → (sub == 0) ≡ at_root → is_locked p.profile.particulars.locks p.added key ≡ true → SameAt key index p (after_by_row p sub 0x0090 bytes)
unfolding after_by_row
defaults_at p sub bytes key index true at locked =
    read_leaves p sub (command_at p 0x0090 Set) key index (accepted p sub 0x0090 Set bytes) at (defaults_leave p key locked)
defaults_at p sub bytes key index false below locked =
    let is = below_err p sub bytes below in
    subst (SameAt key index p) (sym (row_keeps p sub 0x0090 bytes is.0 is.1)) (same p key index)

defaults_stay : (p : Parameters) (sub : ℕ) (bytes : List ℕ) (key index : ℕ) → is_locked p.profile.particulars.locks p.added key ≡ true → SameAt key index p (after_set p sub 0x0090 bytes)
defaults_stay p sub bytes key index locked =
    subst (SameAt key index p) (sym (row_after p sub 0x0090 bytes refl)) (defaults_at p sub bytes key index (sub == 0) refl locked)

-- ---- the others, which are refused if they would write what is locked

either_first : (a b : Bool) → a ≡ true → (a || b) ≡ true
either_first true b e = refl
either_first false b e = absurd (never e)

either_second : (a b : Bool) → b ≡ true → (a || b) ≡ true
either_second true b e = refl
either_second false b e = e

the_one : (b : Bool) → (b || false) ≡ true → b ≡ true
the_one true e = refl
the_one false e = e

kept : (p : Parameters) (sub pid : ℕ) (bytes : List ℕ) (key index : ℕ) → is_set_locked p.profile.particulars.locks p.added pid ≡ true → SameAt key index p (after_set p sub pid bytes)
kept p sub pid bytes key index locked = subst (SameAt key index p) (sym (lock_keeps p sub pid bytes locked)) (same p key index)

-- a SET that writes the values of another parameter
other_kept : (p : Parameters) (sub pid other : ℕ) (bytes : List ℕ) (key index : ℕ) → value_set pid ≡ other → (other == key) ≡ true → is_locked p.profile.particulars.locks p.added key ≡ true → SameAt key index p (after_set p sub pid bytes)
other_kept p sub pid other bytes key index writes at locked =
    kept p sub pid bytes key index (either_second (is_locked p.profile.particulars.locks p.added pid) (is_locked p.profile.particulars.locks p.added (value_set pid)) (ap (is_locked p.profile.particulars.locks p.added) (writes ∙ eqb-true other key at) ∙ locked))

own_kept : (p : Parameters) (sub pid : ℕ) (bytes : List ℕ) (key index : ℕ) → (pid == key) ≡ true → is_locked p.profile.particulars.locks p.added key ≡ true → SameAt key index p (after_set p sub pid bytes)
own_kept p sub pid bytes key index at locked =
    kept p sub pid bytes key index (either_first (is_locked p.profile.particulars.locks p.added pid) (is_locked p.profile.particulars.locks p.added (value_set pid)) (ap (is_locked p.profile.particulars.locks p.added) (eqb-true pid key at) ∙ locked))

-- by the parameter that is set, where the key is one that it writes
abbrev writes : Bool → Bool → Bool → Profile → ℕ → List ℕ
writes block factory records profile pid =
    cond block (0x00F0 ∷ []) (cond factory (factory_pids ++ reset_pids profile.particulars.own) (cond records (0x0201 ∷ []) (pid ∷ [])))

by_pid : (p : Parameters) (sub pid : ℕ) (bytes : List ℕ) (key index : ℕ) (block factory records : Bool) → (pid == 0x0140) ≡ block → (pid == 0x0090) ≡ factory → (pid == 0x0202) ≡ records → list_any (λ k. k == key) (writes block factory records p.profile pid) ≡ true → is_locked p.profile.particulars.locks p.added key ≡ true → SameAt key index p (after_set p sub pid bytes)
by_pid p sub pid bytes key index true factory records is f r at locked =
    let same_pid : 0x0140 ≡ pid = sym (eqb-true pid 0x0140 is) in
    subst (λ (n : ℕ). SameAt key index p (after_set p sub n bytes)) same_pid (other_kept p sub 0x0140 0x00F0 bytes key index refl (the_one (0x00F0 == key) at) locked)
by_pid p sub pid bytes key index false true records b is r at locked =
    subst (λ (n : ℕ). SameAt key index p (after_set p sub n bytes)) (sym (eqb-true pid 0x0090 is)) (defaults_stay p sub bytes key index locked)
by_pid p sub pid bytes key index false false true b f is at locked =
    subst (λ (n : ℕ). SameAt key index p (after_set p sub n bytes)) (sym (eqb-true pid 0x0202 is)) (other_kept p sub 0x0202 0x0201 bytes key index refl (the_one (0x0201 == key) at) locked)
by_pid p sub pid bytes key index false false false b f r at locked = own_kept p sub pid bytes key index (the_one (pid == key) at) locked

by_key : (p : Parameters) (sub pid : ℕ) (bytes : List ℕ) (key index : ℕ) (written : Bool) → list_any (λ k. k == key) (keys_written p.profile pid) ≡ written → is_locked p.profile.particulars.locks p.added key ≡ true → SameAt key index p (after_set p sub pid bytes)
by_key p sub pid bytes key index true at locked = by_pid p sub pid bytes key index (is_block pid) (pid == 0x0090) (pid == 0x0202) refl refl refl at locked
by_key p sub pid bytes key index false apart locked = changes_its_keys p sub pid bytes key index apart

pub locked_values_stay : LockedValuesStay
locked_values_stay p sub pid bytes key index locked = by_key p sub pid bytes key index (list_any (λ k. k == key) (keys_written p.profile pid)) refl locked
