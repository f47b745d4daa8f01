-- Placing a value of a parameter that the maker adds.
use Rattle.std.proofs.Common.{◌≡◌, ◌≢◌, ℕ, ◌==◌, Bool, true, false, cond, List, Option, Some, None, Result, Ok, Err, OnOk, refl, sym, ap, subst, ◌∙◌}
use Rattle.std.specs.Prelude.{is_some, find}
use Rattle.std.specs.Option.{option_map_or}
use Rattle.std.proofs.lemmas.Bool.{ne_eqb}
use Rattle.rdm_frame.specs.declared.nack.Nack.{Nack}
use Rattle.rdm_frame.specs.declared.nack.Nack.TheVariants.{UnknownPid, UnsupportedCommandClass}
use Rattle.rdm_profile.specs.declared.profile.own.ParameterDef.{ParameterDef}
use Rattle.rdm_profile.specs.declared.value.Value.{Value}
use Rattle.rdm_added.specs.Added.{placed_form, placed_stored, is_pid_of}
use Rattle.rdm_profile.specs.Forms.{value_of}
use Rattle.rdm_added.specs.Map.{Entry, update}
use Rattle.rdm_added.specs.Parameters.{Parameters}
use Rattle.rdm_added.specs.Spot.{Spot}
use Rattle.rdm_table.specs.declared.kind.Verb.TheVariants.{Set}
use Rattle.rdm_commands.specs.declared.placing.PlaceError.{PlaceError}
use Rattle.rdm_commands.specs.declared.placing.PlaceError.TheVariants.{NoValue}
use Rattle.rdm_commands.specs.Commands.Commands.{root_spot}
use Rattle.rdm_commands.specs.Commands.Placing.{own_at, own_refusal, own_values, own_placed}
use Rattle.rdm_table.specs.Table.Rows.{Row, row_of, is_left_out}
use Rattle.rdm_table.specs.Table.Uses.{access}

pub nothing_refused : (p : Parameters) (sub pid : ℕ) (bytes : List ℕ) → own_at p sub pid ≡ None → Some NoValue ≡ option_map_or (λ d. own_refusal d bytes) (own_at p sub pid) (Some NoValue)
nothing_refused p sub pid bytes none = sym (ap (λ (o : Option ParameterDef). option_map_or (λ d. own_refusal d bytes) o (Some NoValue)) none)

-- the first test that fails
abbrev third : Bool → Bool → Bool → Option ParameterDef → Option ParameterDef
third left tabled root own = cond left None (cond tabled None (cond root own None))

at_sub : (left tabled : Bool) (own : Option ParameterDef) → third left tabled false own ≡ None
at_sub true tabled own = refl
at_sub false true own = refl
at_sub false false own = refl

of_table : (left root : Bool) (own : Option ParameterDef) → third left true root own ≡ None
of_table true root own = refl
of_table false root own = refl

pub own_left : (p : Parameters) (sub pid : ℕ) → is_left_out p.profile pid ≡ true → own_at p sub pid ≡ None
own_left p sub pid left = ap (λ (b : Bool). third b (is_some (row_of pid)) (sub == 0) (find (is_pid_of pid) p.profile.particulars.own)) left

pub own_sub : (p : Parameters) (sub pid : ℕ) → sub ≢ 0 → own_at p sub pid ≡ None
own_sub p sub pid n =
    ap (λ (b : Bool). third (is_left_out p.profile pid) (is_some (row_of pid)) b (find (is_pid_of pid) p.profile.particulars.own)) (ne_eqb sub 0 n)
    ∙ at_sub (is_left_out p.profile pid) (is_some (row_of pid)) (find (is_pid_of pid) p.profile.particulars.own)

abbrev err : Nack → Result (Unit {0}) Nack
err nack = Err nack

known : (row : Option Row) (is_root : Bool) (nack : Nack) → access row is_root Set ≡ err nack → nack ≢ UnknownPid → is_some row ≡ true
known None is_root nack e n = absurd (n (same UnknownPid nack e))
  where
    same : (a b : Nack) → err a ≡ err b → b ≡ a
    same a b e = cc
known (Some r) is_root nack e n = refl

or_refused : (some : Bool) → cond some (Ok tt) (Err UnsupportedCommandClass) ≡ err UnknownPid → ⊥
or_refused true e = cc
or_refused false e = cc

unknown : (row : Option Row) → access row true Set ≡ err UnknownPid → is_some row ≡ false
unknown None e = refl
unknown (Some r) e = absurd (or_refused (is_some r.set) e)

pub own_tabled : (p : Parameters) (sub pid : ℕ) (nack : Nack) → access (row_of pid) (sub == 0) Set ≡ Err nack → nack ≢ UnknownPid → own_at p sub pid ≡ None
own_tabled p sub pid nack e n =
    ap (λ (b : Bool). third (is_left_out p.profile pid) b (sub == 0) (find (is_pid_of pid) p.profile.particulars.own)) (known (row_of pid) (sub == 0) nack e n)
    ∙ of_table (is_left_out p.profile pid) (sub == 0) (find (is_pid_of pid) p.profile.particulars.own)

pub own_root : (p : Parameters) (sub pid : ℕ) (nack : Nack) → sub ≡ 0 → nack ≡ UnknownPid → is_left_out p.profile pid ≡ false → access (row_of pid) (sub == 0) Set ≡ Err nack → own_at p sub pid ≡ find (is_pid_of pid) p.profile.particulars.own
own_root p sub pid nack zero is stays e =
    let own : Option ParameterDef = find (is_pid_of pid) p.profile.particulars.own in
    let at : access (row_of pid) true Set ≡ err UnknownPid = subst (λ (s : ℕ). access (row_of pid) (s == 0) Set ≡ Err nack) zero e ∙ ap err is in
    ap (λ (s : ℕ). third (is_left_out p.profile pid) (is_some (row_of pid)) (s == 0) own) zero
    ∙ ap (λ (b : Bool). third b (is_some (row_of pid)) true own) stays
    ∙ ap (λ (b : Bool). cond b None own) (unknown (row_of pid) at)

-- the values in which those of the root's own parameters are others
own_viewed : (p : Parameters) (root' added' : List Entry) (d : ParameterDef) (bytes : List ℕ) (o : Option ParameterDef) → root' ≡ p.root → added' ≡ own_values (root_spot p) d bytes → Some d ≡ o → record p { root = root'; added = added' } ≡ option_map_or (λ x. own_placed p x bytes) o p
own_viewed p root' added' d bytes o e f g =
    ap (λ (root : List Entry). record p { root = root; added = added' }) e ∙ ap (λ (added : List Entry). record p { added = added }) f ∙ ap (λ (x : Option ParameterDef). option_map_or (λ y. own_placed p y bytes) x p) g

pub ok_viewed : {A : Type 0} (r : Result A PlaceError) (p : Parameters) (root' added' : List Entry) (d : ParameterDef) (bytes : List ℕ) (o : Option ParameterDef) → root' ≡ p.root → OnOk r ((spot : Spot) → spot.added ≡ p.added → added' ≡ own_values spot d bytes) → Some d ≡ o → OnOk r (record p { root = root'; added = added' } ≡ option_map_or (λ x. own_placed p x bytes) o p)
ok_viewed (Err n) p root' added' d bytes o e f g = tt
ok_viewed (Ok u) p root' added' d bytes o e f g = own_viewed p root' added' d bytes o e (f (root_spot p) refl) g

-- what a value is that is read and stored
pub values_are : (spot : Spot) (d : ParameterDef) (bytes : List ℕ) (value : Value) (old new : List Entry) → value_of (placed_form d.shape) bytes ≡ Some value → spot.added ≡ old → new ≡ update (placed_stored d spot value) old → new ≡ own_values spot d bytes
values_are spot d bytes value old new is same e =
    e ∙ ap (λ (es : List Entry). update (placed_stored d spot value) es) (sym same) ∙ sym (ap (λ (o : Option Value). option_map_or (λ v. update (placed_stored d spot v) spot.added) o spot.added) is)
