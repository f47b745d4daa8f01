-- A value that is in the range of a SET at one sub-device is in it at every one, unless it is a start address: no other range of
-- a SET depends on what a sub-device keeps.
use Rattle.std.proofs.Common.{◌≡◌, ◌≢◌, ℕ, Bool, true, List, [], ◌∷◌, map, Option, Some, None, refl, sym, subst, ◌∙◌}
use Rattle.std.specs.Prelude.{slice_get, IfSome}
use Rattle.std.specs.List.{AllByRecursion, list_all}
use Rattle.std.proofs.lemmas.Bool.{and_from, eqb-true}
use Rattle.rdm_table.specs.declared.kind.Verb.{Verb}
use Rattle.rdm_table.specs.declared.kind.Verb.TheVariants.{Get, Set}
use Rattle.rdm_profile.specs.declared.profile.Profile.{Profile}
use Rattle.rdm_profile.specs.declared.value.Value.{Value}
use Rattle.rdm_added.specs.Map.{Entry}
use Rattle.rdm_added.specs.Parameters.{Parameters}
use Rattle.rdm_added.specs.Spot.{Spot, sub_device}
use Rattle.rdm_table.specs.Table.Rows.{command_of, Command, Row, table, row_of, row_in, command_in}
use Rattle.rdm_commands.specs.Commands.Commands.{addressed, is_all_call, sub_spot}
use Rattle.rdm_table.specs.Table.Uses.{in_range_of}
use Rattle.rdm_table.proofs.Rows.{found}

abbrev IsAlike : Option Command → Type 0
IsAlike None = Unit {0}
IsAlike (Some c) = (p : Profile) (e f : List Entry) (v : Value) → c.range (sub_device p e) v ≡ c.range (sub_device p f) v

abbrev RowIsAlike : Row → Type 0
RowIsAlike r = r.pid ≢ 0x00F0 → IsAlike r.set

rows_alike : AllByRecursion RowIsAlike table
unfolding table
rows_alike = (λ n. tt, (λ n. tt, (λ n. tt, (λ n p e f v. refl, (λ n p e f v. refl, (λ n. tt, (λ n. tt, (λ n. tt, (λ n. tt, (λ n p e f v. refl, (λ n p e f v. refl, (λ n. tt, (λ n p e f v. refl, (λ n. tt, (λ n. tt, (λ n. tt, (λ n p e f v. refl, (λ n. tt, (λ n. absurd (n refl), (λ n. tt, (λ n. tt, (λ n. tt, (λ n. tt, (λ n p e f v. refl, (λ n p e f v. refl, (λ n p e f v. refl, (λ n p e f v. refl, (λ n p e f v. refl, (λ n p e f v. refl, (λ n p e f v. refl, (λ n p e f v. refl, (λ n p e f v. refl, (λ n p e f v. refl, (λ n p e f v. refl, (λ n p e f v. refl, (λ n p e f v. refl, (λ n p e f v. refl, (λ n p e f v. refl, (λ n p e f v. refl, (λ n. tt, (λ n p e f v. refl, tt)))))))))))))))))))))))))))))))))))))))))

of_row : (pid : ℕ) (row : Option Row) → row_in table pid ≡ row → pid ≢ 0x00F0 → IsAlike (command_in row Set)
of_row pid None e n = tt
of_row pid (Some r) e n =
    let say = found RowIsAlike table pid r rows_alike e in
    say.0 (subst (λ (k : ℕ). k ≢ 0x00F0) (sym say.1) n)

alike : (pid : ℕ) → pid ≢ 0x00F0 → IsAlike (command_of pid Set)
unfolding row_of
alike pid n = of_row pid (row_in table pid) refl n

at_another : (c : Option Command) → IsAlike c → (p : Profile) (e f : List Entry) (v : Value) → in_range_of c (sub_device p e) v ≡ in_range_of c (sub_device p f) v
at_another None same p e f v = refl
at_another (Some c) same p e f v = same p e f v

at_each : (c : Option Command) → IsAlike c → (p : Profile) (e : List Entry) (others : List (List Entry)) (v : Value) → in_range_of c (sub_device p e) v ≡ true
    → list_all (λ spot. in_range_of c spot v) (map (sub_device p) others) ≡ true
at_each c same p e [] v first = refl
at_each c same p e (f ∷ others) v first =
    and_from (in_range_of c (sub_device p f) v) (list_all (λ spot. in_range_of c spot v) (map (sub_device p) others)) (sym (at_another c same p e f v) ∙ first) (at_each c same p e others v first)

abbrev test : ℕ → Value → Spot → Bool
test pid v spot = in_range_of (command_of pid Set) spot v

among : (p : Parameters) (pid : ℕ) (v : Value) (subs : List (List Entry)) → pid ≢ 0x00F0 → IfSome (slice_get (map (sub_spot p) subs) 0) (λ spot. test pid v spot ≡ true) → list_all (test pid v) (map (sub_spot p) subs) ≡ true
among p pid v [] n first = refl
among p pid v (e ∷ others) n first =
    and_from (test pid v (sub_spot p e)) (list_all (test pid v) (map (sub_spot p) others)) first (at_each (command_of pid Set) (alike pid n) p.profile e others v first)

pub in_range_at_all : (p : Parameters) (sub pid : ℕ) (verb : Verb) (v : Value) → pid ≢ 0x00F0 → is_all_call sub verb ≡ true
    → IfSome (slice_get (addressed p sub verb) 0) (λ spot. in_range_of (command_of pid verb) spot v ≡ true)
    → list_all (λ spot. in_range_of (command_of pid verb) spot v) (addressed p sub verb) ≡ true
in_range_at_all p sub pid Get v n all first = absurd cc
in_range_at_all p sub pid Set v n all first =
    subst (λ (s : ℕ). IfSome (slice_get (addressed p s Set) 0) (λ spot. test pid v spot ≡ true) → list_all (test pid v) (addressed p s Set) ≡ true) (sym (eqb-true sub 0xFFFF all)) (among p pid v p.subs n) first
