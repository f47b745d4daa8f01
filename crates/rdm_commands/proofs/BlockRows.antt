-- DMX_BLOCK_ADDRESS beside the parameters whose commands are those of their rows.
use Rattle.std.proofs.Common.{◌≡◌, ℕ, Bool, true, false, cond, List, length, Result, Ok, Err, refl, sym, ap}
use Rattle.rdm_frame.specs.declared.nack.Nack.{Nack}
use Rattle.rdm_table.specs.declared.kind.Verb.TheVariants.{Get, Set}
use Rattle.rdm_commands.specs.declared.verdict.Verdict.{Verdict}
use Rattle.rdm_commands.specs.declared.verdict.Verdict.TheVariants.{Refuse}
use Rattle.rdm_profile.specs.declared.value.Value.{Value}
use Rattle.rdm_device.specs.Device.Blocks.{started_from}
use Rattle.rdm_added.specs.Parameters.{Parameters}
use Rattle.rdm_device.proofs.BlockSteps.{as_many_values}
use Rattle.rdm_commands.specs.Commands.Commands.{accepted, command_at, verdict, after_accepted, sub_spots, is_block, block_told, block_taken, block_moved, block_answer, got, got_by_row, after_set, after_by_row, answer_to_set, answer_by_row}

-- ---- every other parameter

pub row_got : (p : Parameters) (sub pid : ℕ) (bytes : List ℕ) → is_block pid ≡ false → got p sub pid bytes ≡ got_by_row p sub pid bytes
unfolding got
row_got p sub pid bytes e = ap (λ (b : Bool). cond b (block_told p (accepted p sub pid Get bytes)) (got_by_row p sub pid bytes)) e

pub row_after : (p : Parameters) (sub pid : ℕ) (bytes : List ℕ) → is_block pid ≡ false → after_set p sub pid bytes ≡ after_by_row p sub pid bytes
unfolding after_set
row_after p sub pid bytes e = ap (λ (b : Bool). cond b (block_moved p (block_taken p (accepted p sub pid Set bytes))) (after_by_row p sub pid bytes)) e

pub row_answer : (p : Parameters) (sub pid : ℕ) (bytes : List ℕ) → is_block pid ≡ false → answer_to_set p sub pid bytes ≡ answer_by_row p sub pid bytes
unfolding answer_to_set
row_answer p sub pid bytes e = ap (λ (b : Bool). cond b (block_answer (block_taken p (accepted p sub pid Set bytes))) (answer_by_row p sub pid bytes)) e

-- ---- what is refused

choose : {A : Type 0} (Q : A → Type 0) (b : Bool) (x y : A) → (b ≡ true → Q x) → (b ≡ false → Q y) → Q (cond b x y)
choose Q true x y one other = one refl
choose Q false x y one other = other refl

pub not_got : (p : Parameters) (sub pid : ℕ) (bytes : List ℕ) (nack : Nack) → accepted p sub pid Get bytes ≡ Err nack → got p sub pid bytes ≡ Refuse nack
unfolding got got_by_row
not_got p sub pid bytes nack e =
    choose (λ (v : Verdict). v ≡ Refuse nack) (is_block pid) (block_told p (accepted p sub pid Get bytes)) (got_by_row p sub pid bytes) (λ is. ap (block_told p) e) (λ is. ap (verdict p sub pid (command_at p pid Get) Get) e)

pub not_answered : (p : Parameters) (sub pid : ℕ) (bytes : List ℕ) (nack : Nack) → accepted p sub pid Set bytes ≡ Err nack → answer_to_set p sub pid bytes ≡ Refuse nack
unfolding answer_to_set answer_by_row
not_answered p sub pid bytes nack e =
    let block : Result Value Nack → Verdict = λ (r : Result Value Nack). block_answer (block_taken p r) in
    choose (λ (v : Verdict). v ≡ Refuse nack) (is_block pid) (block (accepted p sub pid Set bytes)) (answer_by_row p sub pid bytes) (λ is. ap block e) (λ is. ap (verdict (after_by_row p sub pid bytes) sub pid (command_at p pid Set) Set) e)

pub not_moved : (p : Parameters) (sub pid : ℕ) (bytes : List ℕ) (nack : Nack) → accepted p sub pid Set bytes ≡ Err nack → p ≡ after_set p sub pid bytes
unfolding after_set after_by_row
not_moved p sub pid bytes nack e =
    let block : Result Value Nack → Parameters = λ (r : Result Value Nack). block_moved p (block_taken p r) in
    choose (λ (q : Parameters). p ≡ q) (is_block pid) (block (accepted p sub pid Set bytes)) (after_by_row p sub pid bytes) (λ is. sym (ap block e)) (λ is. sym (ap (after_accepted p sub (command_at p pid Set)) e))

-- ---- what is true of both

moved : (Q : Parameters → Type 0) (p : Parameters) (taken : Result ℕ Nack) → Q p → ((base : ℕ) → Q (record p { subs = started_from base (sub_spots p) })) → Q (block_moved p taken)
moved Q p (Err nack) same each = same
moved Q p (Ok base) same each = each base

pub after_either : (Q : Parameters → Type 0) (p : Parameters) (sub pid : ℕ) (bytes : List ℕ) → Q p → (is_block pid ≡ true → (base : ℕ) → Q (record p { subs = started_from base (sub_spots p) })) → (is_block pid ≡ false → Q (after_by_row p sub pid bytes)) → Q (after_set p sub pid bytes)
unfolding after_set
after_either Q p sub pid bytes same each row =
    let taken : Result ℕ Nack = block_taken p (accepted p sub pid Set bytes) in
    choose Q (is_block pid) (block_moved p taken) (after_by_row p sub pid bytes) (λ (is : is_block pid ≡ true). moved Q p taken same (each is)) row

-- ---- the values of the sub-devices

pub as_many : (p : Parameters) (base : ℕ) → length (started_from base (sub_spots p)) ≡ length p.subs
as_many p base = as_many_values p.profile base p.subs
