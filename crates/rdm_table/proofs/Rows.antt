-- The row that is found for a PID has what every row has, and its commands too.
use Rattle.std.proofs.Common.{◌≡◌, ℕ, ◌==◌, Bool, true, false, cond, ◌&&◌, List, [], ◌∷◌, Option, Some, None, refl, subst}
use Rattle.std.specs.List.{AllByRecursion, list_all}
use Rattle.std.proofs.lemmas.Bool.{eqb-true}
use Rattle.rdm_table.specs.declared.kind.Verb.{Verb}
use Rattle.rdm_table.specs.declared.kind.Verb.TheVariants.{Get, Set}
use Rattle.rdm_table.specs.Table.Rows.{Command, Row, row_in, command_in}
use Rattle.rdm_table.proofs.Bools.{both_true}

abbrev some : Row → Option Row
some r = Some r

some_is : (x y : Row) → some x ≡ some y → x ≡ y
some_is x y e = cc

found_at : (P : Row → Type 0) (x : Row) (pid : ℕ) (r : Row) (later : Option Row) → P x → (later ≡ Some r → P r × (r.pid ≡ pid)) → (here : Bool) → (x.pid == pid) ≡ here → cond here (Some x) later ≡ Some r → P r × (r.pid ≡ pid)
found_at P x pid r later has rest true h e = subst (λ (o : Row). P o × (o.pid ≡ pid)) (some_is x r e) (has, eqb-true x.pid pid h)
found_at P x pid r later has rest false h e = rest e

pub found : (P : Row → Type 0) (rows : List Row) (pid : ℕ) (r : Row) → AllByRecursion P rows → row_in rows pid ≡ Some r → P r × (r.pid ≡ pid)
found P [] pid r all e = absurd cc
found P (x ∷ xs) pid r all e = found_at P x pid r (row_in xs pid) all.0 (found P xs pid r all.1) (x.pid == pid) refl e

of_verb : (test : Option Command → Bool) (r : Row) (verb : Verb) → (test r.get ≡ true) × (test r.set ≡ true) → test (command_in (Some r) verb) ≡ true
of_verb test r Get h = h.0
of_verb test r Set h = h.1

either : (test : Option Command → Bool) (verb : Verb) (here : Bool) (r : Row) (later : Option Row) → test (command_in (Some r) verb) ≡ true → test (command_in later verb) ≡ true → test (command_in (cond here (Some r) later) verb) ≡ true
either test verb true r later a b = a
either test verb false r later a b = b

-- A test that both commands of each row pass, and no command, is passed by the command that is found for a PID.
pub holds : (test : Option Command → Bool) (rows : List Row) (pid : ℕ) (verb : Verb) → test None ≡ true → list_all (λ r. test r.get && test r.set) rows ≡ true → test (command_in (row_in rows pid) verb) ≡ true
holds test [] pid verb none all = none
holds test (r ∷ rows) pid verb none all =
    let parts = both_true (test r.get && test r.set) (list_all (λ r. test r.get && test r.set) rows) all in
    either test verb (r.pid == pid) r (row_in rows pid) (of_verb test r verb (both_true (test r.get) (test r.set) parts.0)) (holds test rows pid verb none parts.1)
