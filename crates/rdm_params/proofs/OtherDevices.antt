-- A SET changes nothing but the values of the devices that it addresses.
use Rattle.std.proofs.Common.{◌≡◌, ◌≢◌, ℕ, zero, suc, ◌-◌, ◌==◌, Bool, true, false, cond, List, [], ◌∷◌, length, map, Option, Result, Ok, Err, refl, ap, arith}
use Rattle.std.specs.Prelude.{slice_index_or, slice_set}
use Rattle.std.proofs.lemmas.Bool.{eqb-true, eqb-false}
use Rattle.std.proofs.lemmas.List.{length-map}
use Rattle.rdm_frame.specs.declared.nack.Nack.{Nack}
use Rattle.rdm_table.specs.declared.kind.Verb.TheVariants.{Set}
use Rattle.rdm_profile.specs.declared.value.Value.{Value}
use Rattle.rdm_commands.specs.Commands.Commands.{command_at, accepted, after_set, after_by_row, after_accepted, is_block, block_taken, block_moved, carried_out, root_spot, sub_spot}
use Rattle.rdm_table.specs.Table.Uses.{written, added_written, is_slow}
use Rattle.rdm_params.specs.Laws.{IsSameBut, LeavesTheRest}
use Rattle.rdm_added.specs.Map.{Entry}
use Rattle.rdm_added.specs.Parameters.{Parameters}
use Rattle.rdm_table.specs.Table.Rows.{Command}
use Rattle.rdm_commands.proofs.BlockRows.{as_many}

as_many_set : (subs : List (List Entry)) (i : ℕ) (new : List Entry) → length (slice_set subs i new) ≡ length subs
as_many_set [] i new = refl
as_many_set (es ∷ subs) zero new = refl
as_many_set (es ∷ subs) (suc i) new = ap suc (as_many_set subs i new)

set_other : (subs : List (List Entry)) (i : ℕ) (new : List Entry) (k : ℕ) → i ≢ k → slice_index_or (slice_set subs i new) k [] ≡ slice_index_or subs k []
set_other [] i new k apart = refl
set_other (es ∷ subs) zero new zero apart = absurd (apart refl)
set_other (es ∷ subs) zero new (suc k) apart = refl
set_other (es ∷ subs) (suc i) new zero apart = refl
set_other (es ∷ subs) (suc i) new (suc k) apart = set_other subs i new k (λ same. apart (ap suc same))

place_apart : (sub k : ℕ) → sub ≢ 0 → sub ≢ suc k → sub - 1 ≢ k
place_apart zero k n apart same = absurd (n refl)
place_apart (suc i) k n apart same = apart (omega (arith, same))

pub unchanged : (p : Parameters) (sub : ℕ) → IsSameBut sub p p
unchanged p sub = record { profile = refl; count = refl; root = λ n. refl; added = λ n. refl; subs = λ k n m. refl }

pub carried : (p : Parameters) (sub : ℕ) (command : Option Command) (v : Value) (at_root all : Bool) → (sub == 0) ≡ at_root → (sub == 0xFFFF) ≡ all → IsSameBut sub p (cond at_root (record p { root = written command v (root_spot p); added = added_written command v (root_spot p) }) (cond all (record p { subs = map (λ entries. written command v (sub_spot p entries)) p.subs }) (record p { subs = slice_set p.subs (sub - 1) (written command v (sub_spot p (slice_index_or p.subs (sub - 1) []))) })))
carried p sub command v true all e f =
    record { profile = refl; count = refl; root = λ n. absurd (n (eqb-true sub 0 e)); added = λ n. absurd (n (eqb-true sub 0 e)); subs = λ k n m. refl }
carried p sub command v false true e f =
    record { profile = refl; count = simp length-map; root = λ n. refl; added = λ n. refl; subs = λ k n m. absurd (m (eqb-true sub 0xFFFF f)) }
carried p sub command v false false e f =
    let new : List Entry = written command v (sub_spot p (slice_index_or p.subs (sub - 1) [])) in
    record { profile = refl; count = as_many_set p.subs (sub - 1) new; root = λ n. refl; added = λ n. refl; subs = λ k n m. set_other p.subs (sub - 1) new k (place_apart sub k (eqb-false sub 0 e) n) }

unless_slow : (p new : Parameters) (sub : ℕ) (slow : Bool) → IsSameBut sub p new → IsSameBut sub p (cond slow p new)
unless_slow p new sub true same = unchanged p sub
unless_slow p new sub false same = same

after : (p : Parameters) (sub : ℕ) (command : Option Command) (read : Result Value Nack) → IsSameBut sub p (after_accepted p sub command read)
after p sub command (Err nack) = unchanged p sub
after p sub command (Ok v) = unless_slow p (carried_out p sub command v) sub (is_slow command) (carried p sub command v (sub == 0) (sub == 0xFFFF) refl refl)

rest_by_row : (p : Parameters) (sub pid : ℕ) (bytes : List ℕ) → IsSameBut sub p (after_by_row p sub pid bytes)
unfolding after_by_row
rest_by_row p sub pid bytes = after p sub (command_at p pid Set) (accepted p sub pid Set bytes)

-- of a block every sub-device may be another
block_moves : (p : Parameters) (taken : Result ℕ Nack) → IsSameBut 0xFFFF p (block_moved p taken)
block_moves p (Err nack) = unchanged p 0xFFFF
block_moves p (Ok base) = record { profile = refl; count = as_many p base; root = λ n. refl; added = λ n. refl; subs = λ k n m. absurd (m refl) }

either_rest : (b : Bool) (sub : ℕ) (p x y : Parameters) → IsSameBut 0xFFFF p x → IsSameBut sub p y → IsSameBut (cond b 0xFFFF sub) p (cond b x y)
either_rest true sub p x y one other = one
either_rest false sub p x y one other = other

pub leaves_the_rest : LeavesTheRest
unfolding after_set
leaves_the_rest p sub pid bytes =
    let taken : Result ℕ Nack = block_taken p (accepted p sub pid Set bytes) in
    either_rest (is_block pid) sub p (block_moved p taken) (after_by_row p sub pid bytes) (block_moves p taken) (rest_by_row p sub pid bytes)
