-- The commands of DMX_BLOCK_ADDRESS: what is accepted, told and moved.
use Rattle.std.proofs.Common.{◌≡◌, ◌≢◌, ℕ, Bool, true, false, List, [], Option, Some, None, Result, Ok, Err, refl, sym, ap, ◌∙◌}
use Rattle.std.specs.Prelude.{is_ok, IfOk, IfErr}
use Rattle.std.proofs.lemmas.Bool.{ne_eqb}
use Rattle.rdm_frame.specs.declared.nack.Nack.{Nack}
use Rattle.rdm_frame.specs.declared.nack.Nack.TheVariants.{UnknownPid}
use Rattle.rdm_table.specs.declared.kind.Verb.{Verb}
use Rattle.rdm_table.specs.declared.kind.Verb.TheVariants.{Get, Set}
use Rattle.rdm_commands.specs.declared.verdict.Verdict.TheVariants.{Reply, Refuse}
use Rattle.rdm_profile.specs.declared.profile.Profile.{Profile}
use Rattle.rdm_profile.specs.declared.profile.own.ParameterDef.{ParameterDef}
use Rattle.rdm_profile.specs.declared.value.Value.{Value}
use Rattle.rdm_device.specs.Device.Blocks.{block_slots, started_from}
use Rattle.rdm_added.specs.Parameters.{Parameters}
use Rattle.rdm_added.specs.Spot.{Spot}
use Rattle.rdm_commands.specs.Commands.Added.{row_here, handed_with, handed_here, reply_here, after_here}
use Rattle.rdm_commands.specs.Commands.Commands.{accepted, open_to, root_spot, sub_spots, is_block, block_told, block_taken, block_moved, block_answer, got, got_by_row, after_set, after_by_row, answer_to_set, answer_by_row}
use Rattle.rdm_table.specs.Table.Rows.{Command, Row, table, row_of, is_left_out, added_row, command_in}
use Rattle.rdm_table.specs.Table.Uses.{access}
use Rattle.rdm_commands.proofs.AddedCommands.{IsTestOf, told, told_err, handed_is, at_here, accepted_here, get_here_replies, set_here_replies, set_here_leaves}
use Rattle.rdm_commands.proofs.BlockRows.{row_got, row_answer, row_after, not_got, not_answered}

-- ---- the table has none, and no profile leaves it out

no_row : row_of 0x0140 ≡ None
unfolding row_of table
no_row = refl

never_left : (p : Profile) → is_left_out p 0x0140 ≡ false
never_left p = refl

unknown : (verb : Verb) → access (row_of 0x0140) true verb ≡ Err UnknownPid
unknown verb = ap (λ (row : Option Row). access row true verb) no_row

nothing_known : (is_root : Bool) (verb : Verb) → access None is_root verb ≡ Ok tt → ⊥
nothing_known is_root verb e = cc

-- what the table has is another parameter
is_other : (pid : ℕ) (is_root : Bool) (verb : Verb) → access (row_of pid) is_root verb ≡ Ok tt → is_block pid ≡ false
is_other pid is_root verb e = ne_eqb pid 0x0140 (λ (same : pid ≡ 0x0140). nothing_known is_root verb (ap (λ (row : Option Row). access row is_root verb) (sym no_row ∙ ap row_of (sym same)) ∙ e))

pub tabled_got : (p : Parameters) (sub pid : ℕ) (bytes : List ℕ) (is_root : Bool) → access (row_of pid) is_root Get ≡ Ok tt → got p sub pid bytes ≡ got_by_row p sub pid bytes
tabled_got p sub pid bytes is_root e = row_got p sub pid bytes (is_other pid is_root Get e)

pub tabled_answer : (p : Parameters) (sub pid : ℕ) (bytes : List ℕ) (is_root : Bool) → access (row_of pid) is_root Set ≡ Ok tt → answer_to_set p sub pid bytes ≡ answer_by_row p sub pid bytes
tabled_answer p sub pid bytes is_root e = row_answer p sub pid bytes (is_other pid is_root Set e)

pub tabled_after : (p : Parameters) (sub pid : ℕ) (bytes : List ℕ) (is_root : Bool) → access (row_of pid) is_root Set ≡ Ok tt → after_set p sub pid bytes ≡ after_by_row p sub pid bytes
tabled_after p sub pid bytes is_root e = row_after p sub pid bytes (is_other pid is_root Set e)

-- ---- what is accepted at the root

at_root : (p : Parameters) (pid : ℕ) (verb : Verb) (bytes : List ℕ) → is_left_out p.profile pid ≡ false → access (row_of pid) true verb ≡ Err UnknownPid → accepted p 0 pid verb bytes ≡ handed_here (root_spot p) pid (row_here p.profile pid) verb bytes
at_root p pid verb bytes stays e = accepted_here p pid verb bytes (at_here p.profile pid verb stays e)

block_at_root : (p : Parameters) (verb : Verb) (bytes : List ℕ) → accepted p 0 0x0140 verb bytes ≡ handed_here (root_spot p) 0x0140 (row_here p.profile 0x0140) verb bytes
block_at_root p verb bytes = at_root p 0x0140 verb bytes (never_left p.profile) (unknown verb)

-- ---- what a GET tells

told_ok : (r : Result Value Nack) (command : Option Command) (spot : Spot) (body : List ℕ) → told command spot r ≡ Ok body → is_ok r ≡ true
told_ok (Ok v) command spot body e = refl
told_ok (Err nack) command spot body e = absurd cc

told_by : (p : Parameters) (r : Result Value Nack) → is_ok r ≡ true → block_told p r ≡ Reply (block_slots (sub_spots p))
told_by p (Ok v) e = refl
told_by p (Err nack) e = absurd cc

block_got : (p : Parameters) (sub : ℕ) (bytes : List ℕ) → is_ok (accepted p sub 0x0140 Get bytes) ≡ true → got p sub 0x0140 bytes ≡ Reply (block_slots (sub_spots p))
unfolding got
block_got p sub bytes e = told_by p (accepted p sub 0x0140 Get bytes) e

pub block_shows : (p : Parameters) (bytes body shown : List ℕ) → reply_here (root_spot p) 0x0140 (row_here p.profile 0x0140) Get bytes ≡ Ok body → shown ≡ block_slots (sub_spots p) → got p 0 0x0140 bytes ≡ Reply shown
block_shows p bytes body shown e slots =
    let row = row_here p.profile 0x0140 in
    let handed : is_ok (handed_here (root_spot p) 0x0140 row Get bytes) ≡ true = told_ok (handed_here (root_spot p) 0x0140 row Get bytes) (command_in row Get) (root_spot p) body e in
    block_got p 0 bytes (ap is_ok (block_at_root p Get bytes) ∙ handed) ∙ ap Reply (sym slots)

not_told : (p : Parameters) (pid : ℕ) (bytes : List ℕ) (nack : Nack) → is_left_out p.profile pid ≡ false → access (row_of pid) true Get ≡ Err UnknownPid → reply_here (root_spot p) pid (row_here p.profile pid) Get bytes ≡ Err nack → got p 0 pid bytes ≡ Refuse nack
not_told p pid bytes nack stays none e =
    let row = row_here p.profile pid in
    let handed : handed_here (root_spot p) pid row Get bytes ≡ Err nack = told_err (handed_here (root_spot p) pid row Get bytes) (command_in row Get) (root_spot p) nack e in
    not_got p 0 pid bytes nack (at_root p pid Get bytes stays none ∙ handed)

pub block_not_told : (p : Parameters) (bytes : List ℕ) (nack : Nack) → reply_here (root_spot p) 0x0140 (row_here p.profile 0x0140) Get bytes ≡ Err nack → got p 0 0x0140 bytes ≡ Refuse nack
block_not_told p bytes nack e = not_told p 0x0140 bytes nack (never_left p.profile) (unknown Get) e

-- ---- a GET of any other

pub added_told : {A : Type 0} (p : Parameters) (pid : ℕ) (bytes body : List ℕ) (r : Result A Nack) → is_left_out p.profile pid ≡ false → access (row_of pid) true Get ≡ Err UnknownPid → pid ≢ 0x0140 → IfOk r (λ u. reply_here (root_spot p) pid (row_here p.profile pid) Get bytes ≡ Ok body) → IfOk r (λ u. got p 0 pid bytes ≡ Reply body)
added_told p pid bytes body (Ok x) stays none other e = row_got p 0 pid bytes (ne_eqb pid 0x0140 other) ∙ sym (get_here_replies p pid bytes body stays none e)
added_told p pid bytes body (Err nack) stays none other e = tt

pub added_not_told : {A : Type 0} (p : Parameters) (pid : ℕ) (bytes : List ℕ) (r : Result A Nack) → is_left_out p.profile pid ≡ false → access (row_of pid) true Get ≡ Err UnknownPid → IfErr r (λ nack. reply_here (root_spot p) pid (row_here p.profile pid) Get bytes ≡ Err nack) → IfErr r (λ nack. got p 0 pid bytes ≡ Refuse nack)
added_not_told p pid bytes (Ok x) stays none e = tt
added_not_told p pid bytes (Err nack) stays none e = not_told p pid bytes nack stays none e

-- ---- a SET of any other

pub added_set : (p : Parameters) (pid : ℕ) (bytes : List ℕ) → is_left_out p.profile pid ≡ false → access (row_of pid) true Set ≡ Err UnknownPid → pid ≢ 0x0140 → is_ok (handed_here (root_spot p) pid (row_here p.profile pid) Set bytes) ≡ true → answer_to_set p 0 pid bytes ≡ Reply []
added_set p pid bytes stays none other e = row_answer p 0 pid bytes (ne_eqb pid 0x0140 other) ∙ sym (set_here_replies p pid bytes stays none e)

pub added_set_refused : {A : Type 0} (p : Parameters) (pid : ℕ) (bytes : List ℕ) (r : Result A Nack) → is_left_out p.profile pid ≡ false → access (row_of pid) true Set ≡ Err UnknownPid → IfErr r (λ nack. handed_here (root_spot p) pid (row_here p.profile pid) Set bytes ≡ Err nack) → IfErr r (λ nack. answer_to_set p 0 pid bytes ≡ Refuse nack)
added_set_refused p pid bytes (Ok x) stays none e = tt
added_set_refused p pid bytes (Err nack) stays none e = not_answered p 0 pid bytes nack (at_root p pid Set bytes stays none ∙ e)

pub added_after : (p new : Parameters) (pid : ℕ) (bytes : List ℕ) → is_left_out p.profile pid ≡ false → access (row_of pid) true Set ≡ Err UnknownPid → pid ≢ 0x0140 → new ≡ record p { added = after_here (root_spot p) pid (row_here p.profile pid) bytes } → new ≡ after_set p 0 pid bytes
added_after p new pid bytes stays none other e = e ∙ sym (row_after p 0 pid bytes (ne_eqb pid 0x0140 other) ∙ set_here_leaves p pid bytes stays none)

-- ---- what a SET takes and moves

pub taken_here : (p : Parameters) (bytes : List ℕ) (d : ParameterDef) (protected no_pin : Bool) (r : Result Value Nack) → row_here p.profile 0x0140 ≡ Some (added_row d) → IsTestOf p 0x0140 bytes d protected no_pin → ((spot : Spot) → spot.added ≡ p.added → r ≡ handed_with (open_to protected no_pin) spot (Some (added_row d)) Set bytes) → r ≡ handed_here (root_spot p) 0x0140 (row_here p.profile 0x0140) Set bytes
taken_here p bytes d protected no_pin r row test e =
    e (root_spot p) refl ∙ handed_is p 0x0140 bytes d protected no_pin test ∙ ap (λ (x : Option Row). handed_here (root_spot p) 0x0140 x Set bytes) (sym row)

pub taken_at_root : (p : Parameters) (bytes : List ℕ) (r : Result Value Nack) → r ≡ handed_here (root_spot p) 0x0140 (row_here p.profile 0x0140) Set bytes → block_taken p (accepted p 0 0x0140 Set bytes) ≡ block_taken p r
taken_at_root p bytes r e = ap (block_taken p) (block_at_root p Set bytes ∙ sym e)

pub block_moves : (p : Parameters) (sub : ℕ) (bytes : List ℕ) (base : ℕ) → block_taken p (accepted p sub 0x0140 Set bytes) ≡ Ok base → after_set p sub 0x0140 bytes ≡ record p { subs = started_from base (sub_spots p) }
unfolding after_set
block_moves p sub bytes base e = ap (block_moved p) e

pub block_stays : (p : Parameters) (sub : ℕ) (bytes : List ℕ) (nack : Nack) → block_taken p (accepted p sub 0x0140 Set bytes) ≡ Err nack → after_set p sub 0x0140 bytes ≡ p
unfolding after_set
block_stays p sub bytes nack e = ap (block_moved p) e

pub block_answers : (p : Parameters) (sub : ℕ) (bytes : List ℕ) (base : ℕ) → block_taken p (accepted p sub 0x0140 Set bytes) ≡ Ok base → answer_to_set p sub 0x0140 bytes ≡ Reply []
unfolding answer_to_set
block_answers p sub bytes base e = ap block_answer e

pub block_refuses : (p : Parameters) (sub : ℕ) (bytes : List ℕ) (nack : Nack) → block_taken p (accepted p sub 0x0140 Set bytes) ≡ Err nack → answer_to_set p sub 0x0140 bytes ≡ Refuse nack
unfolding answer_to_set
block_refuses p sub bytes nack e = ap block_answer e
