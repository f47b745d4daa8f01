-- What the lock state locks stays.
use Rattle.std.proofs.Common.{◌≡◌, ℕ, Bool, true, false, cond, not, List, ◌&&◌, ◌||◌, Option, Some, None, Result, Ok, Err, refl, sym, ap, ◌∙◌}
use Rattle.std.proofs.lemmas.Bool.{eqb-true}
use Rattle.rdm_frame.specs.declared.nack.Nack.{Nack}
use Rattle.rdm_frame.specs.declared.nack.Nack.TheVariants.{WriteProtect, FormatError}
use Rattle.rdm_table.specs.declared.kind.Verb.TheVariants.{Set}
use Rattle.rdm_commands.specs.declared.verdict.Verdict.TheVariants.{Refuse}
use Rattle.rdm_profile.specs.declared.value.Value.{Value}
use Rattle.rdm_added.specs.Locking.{is_set_locked, is_no_pin}
use Rattle.rdm_added.specs.Parameters.{Parameters}
use Rattle.rdm_commands.specs.Commands.Commands.{command_at, carried_out, accepted, known, is_read_only, open_to, unprotected, read_data, verdict, after_accepted, answer_by_row, after_by_row, is_block, block_taken, block_moved, block_answer, answer_to_set, after_set, ◌>>=◌}
use Rattle.rdm_params.specs.Laws.{LockRefuses, LockKeeps}
use Rattle.rdm_commands.specs.Commands.Added.{row_here}
use Rattle.rdm_table.specs.Table.Rows.{Command, Row, command_of, row_at, row_of, table, is_left_out, command_in}
use Rattle.rdm_table.specs.Table.Uses.{is_slow, is_by_job}
use Rattle.rdm_commands.proofs.AddedRows.{row_has, here_is}
use Rattle.rdm_commands.proofs.BlockRows.{row_after}

abbrev IsErr : Result Value Nack → Type 0
IsErr r = (nack : Nack) × (r ≡ Err nack)

behind : (r : Result (Unit {0}) Nack) (f : Unit {0} → Result Value Nack) → ((u : Unit {0}) → IsErr (f u)) → IsErr (r >>= f)
behind (Err nack) f e = (nack, refl)
behind (Ok u) f e = e u

barred : (read locked no_pin : Bool) → locked ≡ true → open_to (read || (locked && true)) no_pin ≡ Err WriteProtect
barred true locked no_pin e = refl
barred false true no_pin e = refl
barred false false no_pin e = absurd cc

at_command : (p : Parameters) (sub pid : ℕ) (bytes : List ℕ) (command : Option Command) → is_set_locked p.profile.particulars.locks p.added pid ≡ true → is_slow command ≡ false → IsErr (unprotected p.profile p.added pid command Set bytes >>= (λ w. read_data p sub command Set bytes))
at_command p sub pid bytes None locked quick =
    behind (unprotected p.profile p.added pid None Set bytes) (λ w. read_data p sub None Set bytes) (λ w. (FormatError, refl))
at_command p sub pid bytes (Some c) locked quick =
    let read : Bool = is_read_only p.profile.particulars.own pid bytes in
    let at : Bool = is_set_locked p.profile.particulars.locks p.added pid in
    let later : Unit {0} → Result Value Nack = λ w. read_data p sub (Some c) Set bytes in (
      WriteProtect,
      ap (λ (b : Bool). open_to (read || (at && b)) (is_no_pin pid bytes) >>= later) (ap not quick)
          ∙ ap (λ (r : Result (Unit {0}) Nack). r >>= later) (barred read at (is_no_pin pid bytes) locked),
    )

refused : (p : Parameters) (sub pid : ℕ) (bytes : List ℕ) → is_set_locked p.profile.particulars.locks p.added pid ≡ true → is_slow (command_at p pid Set) ≡ false → IsErr (accepted p sub pid Set bytes)
unfolding accepted
refused p sub pid bytes locked quick =
    behind (known p sub (row_at p.profile pid) Set) (λ u. unprotected p.profile p.added pid (command_at p pid Set) Set bytes >>= (λ w. read_data p sub (command_at p pid Set) Set bytes)) (λ u. at_command p sub pid bytes (command_at p pid Set) locked quick)

row_refuses : (p : Parameters) (sub pid : ℕ) (bytes : List ℕ) (nack : Nack) → accepted p sub pid Set bytes ≡ Err nack → answer_by_row p sub pid bytes ≡ Refuse nack
unfolding answer_by_row
row_refuses p sub pid bytes nack e = ap (verdict (after_by_row p sub pid bytes) sub pid (command_at p pid Set) Set) e

pub row_keeps : (p : Parameters) (sub pid : ℕ) (bytes : List ℕ) (nack : Nack) → accepted p sub pid Set bytes ≡ Err nack → after_by_row p sub pid bytes ≡ p
unfolding after_by_row
row_keeps p sub pid bytes nack e = ap (after_accepted p sub (command_at p pid Set)) e

either : {A : Type 0} (first : Bool) (x y z : A) → x ≡ z → y ≡ z → cond first x y ≡ z
either true x y z e f = e
either false x y z e f = f

pub lock_refuses : LockRefuses
unfolding answer_to_set
lock_refuses p sub pid bytes locked quick =
    let is = refused p sub pid bytes locked quick in
    (is.0, either (is_block pid) _ _ (Refuse is.0) (ap (λ (r : Result Value Nack). block_answer (block_taken p r)) is.1) (row_refuses p sub pid bytes is.0 is.1))

quick_keeps : (p : Parameters) (sub pid : ℕ) (bytes : List ℕ) → is_set_locked p.profile.particulars.locks p.added pid ≡ true → is_slow (command_at p pid Set) ≡ false → after_set p sub pid bytes ≡ p
unfolding after_set
quick_keeps p sub pid bytes locked quick =
    let is = refused p sub pid bytes locked quick in
    either (is_block pid) _ _ p (ap (λ (r : Result Value Nack). block_moved p (block_taken p r)) is.1) (row_keeps p sub pid bytes is.0 is.1)

-- DMX_BLOCK_ADDRESS isn't slow, since the table lacks it
table_block : is_slow (command_of 0x0140 Set) ≡ false
unfolding row_of table
table_block = refl

quick_block : (p : Parameters) → is_slow (command_at p 0x0140 Set) ≡ false
quick_block p =
    row_has (λ (row : Option Row). is_slow (command_in row Set) ≡ false) (is_left_out p.profile 0x0140) (row_of 0x0140) (row_here p.profile 0x0140)
    refl table_block (λ none. ap is_by_job ((here_is p.profile 0x0140).way Set))

never : true ≡ false → ⊥
never e = cc

-- a slow SET leaves every value, whether or not it is locked
slow_after : (p : Parameters) (command : Option Command) (sub : ℕ) (read : Result Value Nack) → is_slow command ≡ true → after_accepted p sub command read ≡ p
slow_after p command sub (Err nack) slow = refl
slow_after p command sub (Ok v) slow = ap (λ (b : Bool). cond b p (carried_out p sub command v)) slow

slow_row : (p : Parameters) (sub pid : ℕ) (bytes : List ℕ) → is_slow (command_at p pid Set) ≡ true → after_by_row p sub pid bytes ≡ p
unfolding after_by_row
slow_row p sub pid bytes slow = slow_after p (command_at p pid Set) sub (accepted p sub pid Set bytes) slow

slow_keeps : (p : Parameters) (sub pid : ℕ) (bytes : List ℕ) (block : Bool) → is_block pid ≡ block → is_slow (command_at p pid Set) ≡ true → after_set p sub pid bytes ≡ p
slow_keeps p sub pid bytes true is slow =
    absurd (never (sym slow ∙ ap (λ (n : ℕ). is_slow (command_at p n Set)) (eqb-true pid 0x0140 is) ∙ quick_block p))
slow_keeps p sub pid bytes false is slow = row_after p sub pid bytes is ∙ slow_row p sub pid bytes slow

keeps_by : (p : Parameters) (sub pid : ℕ) (bytes : List ℕ) (slow : Bool) → is_slow (command_at p pid Set) ≡ slow → is_set_locked p.profile.particulars.locks p.added pid ≡ true → after_set p sub pid bytes ≡ p
keeps_by p sub pid bytes true slow locked = slow_keeps p sub pid bytes (is_block pid) refl slow
keeps_by p sub pid bytes false quick locked = quick_keeps p sub pid bytes locked quick

pub lock_keeps : LockKeeps
lock_keeps p sub pid bytes locked = keeps_by p sub pid bytes (is_slow (command_at p pid Set)) refl locked
