-- What the SETs of the table make of the parameters that the maker adds: FACTORY_DEFAULTS sets them back, and every other leaves them.
use Rattle.std.proofs.Common.{◌≡◌, ℕ, ◌==◌, Bool, true, false, List, [], ◌∷◌, Option, Some, None, refl, sym, ap, subst, ◌∙◌}
use Rattle.std.specs.List.{AllByRecursion}
use Rattle.std.proofs.lemmas.Bool.{eqb-true}
use Rattle.rdm_profile.specs.declared.value.Value.{Value}
use Rattle.rdm_added.specs.Added.{added_set_back}
use Rattle.rdm_added.specs.Map.{Entry, update}
use Rattle.rdm_added.specs.Spot.{Spot}
use Rattle.rdm_table.specs.declared.kind.Verb.TheVariants.{Set}
use Rattle.rdm_table.specs.Table.Rows.{Row, table, row_of, row_in, command_in, command_of}
use Rattle.rdm_table.specs.Table.Uses.{added_change}
use Rattle.rdm_table.proofs.Rows.{found}

-- a SET of this row leaves the parameters that the maker adds, unless it is FACTORY_DEFAULTS
abbrev LeavesAdded : Row → Type 0
LeavesAdded r = (r.pid == 0x0090) ≡ false → (spot : Spot) (v : Value) (e : Entry) → added_change (command_in (Some r) Set) spot v e ≡ e.bytes

factory : true ≡ false → (spot : Spot) (v : Value) (e : Entry) → added_set_back spot v e ≡ e.bytes
factory never spot v e = absurd cc

rows_leave : AllByRecursion LeavesAdded table
unfolding table
rows_leave = (λ n s v e. refl, (λ n s v e. refl, (λ n s v e. refl, (λ n s v e. refl, (λ n s v e. refl, (λ n s v e. refl, (λ n s v e. refl, (λ n s v e. refl, (λ n s v e. refl, (λ n s v e. refl, (factory, (λ n s v e. refl, (λ n s v e. refl, (λ n s v e. refl, (λ n s v e. refl, (λ n s v e. refl, (λ n s v e. refl, (λ n s v e. refl, (λ n s v e. refl, (λ n s v e. refl, (λ n s v e. refl, (λ n s v e. refl, (λ n s v e. refl, (λ n s v e. refl, (λ n s v e. refl, (λ n s v e. refl, (λ n s v e. refl, (λ n s v e. refl, (λ n s v e. refl, (λ n s v e. refl, (λ n s v e. refl, (λ n s v e. refl, (λ n s v e. refl, (λ n s v e. refl, (λ n s v e. refl, (λ n s v e. refl, (λ n s v e. refl, (λ n s v e. refl, (λ n s v e. refl, (λ n s v e. refl, (λ n s v e. refl, tt)))))))))))))))))))))))))))))))))))))))))

leaving : (pid : ℕ) (row : Option Row) → row_in table pid ≡ row → (pid == 0x0090) ≡ false → (spot : Spot) (v : Value) (e : Entry) → added_change (command_in row Set) spot v e ≡ e.bytes
leaving pid None e other spot v entry = refl
leaving pid (Some r) e other spot v entry =
    let one = found LeavesAdded table pid r rows_leave e in
    one.0 (ap (λ (n : ℕ). n == 0x0090) one.1 ∙ other) spot v entry

others_leave : (pid : ℕ) → (pid == 0x0090) ≡ false → (spot : Spot) (v : Value) (e : Entry) → added_change (command_of pid Set) spot v e ≡ e.bytes
unfolding row_of
others_leave pid other spot v e = leaving pid (row_in table pid) refl other spot v e

-- a change that leaves the bytes of every entry leaves the entries
pub update_leaves : (f : Entry → List ℕ) (es : List Entry) → ((e : Entry) → f e ≡ e.bytes) → update f es ≡ es
update_leaves f [] stays = refl
update_leaves f (e ∷ es) stays = rw (stays e, update_leaves f es stays) refl

-- FACTORY_DEFAULTS, and the others
pub left_by_others : (pid : ℕ) (factory : Bool) (spot : Spot) (v : Value) (es : List Entry) → factory ≡ (pid == 0x0090) → factory ≡ false → es ≡ update (added_change (command_of pid Set) spot v) es
left_by_others pid factory spot v es is other = sym (update_leaves (added_change (command_of pid Set) spot v) es (others_leave pid (sym is ∙ other) spot v))

abbrev is_set_back : ℕ → Type 0
is_set_back pid = (spot : Spot) (v : Value) (es : List Entry) → update (added_set_back spot v) es ≡ update (added_change (command_of pid Set) spot v) es

factory_is : is_set_back 0x0090
unfolding row_of table
factory_is spot v es = refl

pub set_back_by_factory : (pid : ℕ) (factory : Bool) (spot : Spot) (v : Value) (es new : List Entry) → factory ≡ (pid == 0x0090) → factory ≡ true → new ≡ update (added_set_back spot v) es → new ≡ update (added_change (command_of pid Set) spot v) es
set_back_by_factory pid factory spot v es new is holds e = e ∙ (subst is_set_back (sym (eqb-true pid 0x0090 (sym is ∙ holds))) factory_is) spot v es
