-- The end of a job and a change at the fixture's own menu change no value but at their keys.
use Rattle.std.proofs.Common.{◌≡◌, ◌≢◌, ℕ, ℤ, ◌==◌, ◌&&◌, Bool, true, false, cond, List, [], ◌∷◌, Option, Some, None, refl, sym, subst, ◌∙◌}
use Rattle.std.specs.Prelude.{not, ◌||◌}
use Rattle.std.specs.List.{list_all, list_any, AllByRecursion}
use Rattle.std.proofs.lemmas.Bool.{eqb-true, ne_eqb}
use Rattle.rdm_table.specs.declared.kind.Verb.{Verb}
use Rattle.rdm_table.specs.declared.kind.Verb.TheVariants.{Get, Set}
use Rattle.rdm_commands.specs.declared.panel.Change.{Change}
use Rattle.rdm_commands.specs.declared.panel.Change.TheVariants as changes
use Rattle.rdm_commands.specs.declared.jobs.outcome.Outcome.{Outcome}
use Rattle.rdm_commands.specs.declared.jobs.outcome.Outcome.TheVariants.{Done, Reading, Failed}
use Rattle.rdm_commands.specs.declared.jobs.work.Work.{Work}
use Rattle.rdm_profile.specs.declared.profile.Profile.{Profile}
use Rattle.rdm_profile.specs.declared.value.Value.{Value}
use Rattle.rdm_profile.specs.declared.value.Value.TheVariants.{Byte}
use Rattle.rdm_table.specs.Table.Rows.{command_of, Row, table, row_of, row_in, command_in}
use Rattle.rdm_commands.specs.Commands.Commands.{carried_out, is_all_call}
use Rattle.rdm_commands.specs.Commands.Panel.{after_change, can_change, changed_pid, changed_value}
use Rattle.rdm_params.specs.Laws.{keys_of_row, keys_committed, SameAt, IsSameBut, CommitChangesItsKey, CommitChangesItsKeys, ReadingChangesItsSensor, CommitLeavesTheRest, FailedChangesNothing, PanelChangesItsKey, PanelLeavesTheRest}
use Rattle.rdm_commands.specs.Jobs.Commit.{after_commit}
use Rattle.rdm_commands.specs.Jobs.Outcome.{ends}
use Rattle.rdm_added.specs.Map.{Entry, lookup, update}
use Rattle.rdm_device.specs.Device.Measuring.{measured, measured_by}
use Rattle.rdm_added.specs.Parameters.{Parameters}
use Rattle.rdm_table.specs.Table.Uses.{is_slow}
use Rattle.rdm_table.proofs.Bools.{both_true, is_not, not_either}
use Rattle.rdm_params.proofs.OtherDevices.{unchanged, carried}
use Rattle.rdm_params.proofs.OwnKeys.{Keeps, IsApart, lookup-update, carried_keeps, of_table, apart_test}
use Rattle.rdm_table.proofs.Rows.{found}

same : (p : Parameters) (key index : ℕ) → SameAt key index p p
same p key index = record { root = refl; added = refl; subs = λ k. refl }

carried_same : (p : Parameters) (sub pid : ℕ) (v : Value) (key index : ℕ) → IsApart p.profile pid key → SameAt key index p (carried_out p sub (command_of pid Set) v)
carried_same p sub pid v key index apart = carried_keeps p sub pid (command_of pid Set) v key index (of_table pid) apart (sub == 0) (is_all_call sub Set)

-- ---- readings

either_false : (a b : Bool) (x y : List ℕ) → (a ≡ false) → cond (a && b) x y ≡ y
either_false true b x y e = absurd cc
either_false false b x y e = refl

measures_only : (number : ℕ) (v : ℤ) (key : ℕ) → (0x0201 == key) ≡ false → Keeps key (measured_by number v)
measures_only number v key apart e at = either_false (e.pid == 0x0201) (e.index == number) (measured v e.bytes) e.bytes (apart_test 0x0201 key e.pid apart at)

reading_keeps : (p : Parameters) (w : Work) (v : ℤ) (key index : ℕ) → (0x0201 == key) ≡ false → SameAt key index p (after_commit p w (Reading v))
unfolding after_commit
reading_keeps p w v key index apart =
    record { root = lookup-update key index (measured_by w.arg v) p.root (measures_only w.arg v key apart); added = refl; subs = λ k. refl }

pub changes_its_keys_at_end : CommitChangesItsKeys
unfolding after_commit
changes_its_keys_at_end p w Done key index apart = carried_same p w.sub w.pid (Byte w.arg) key index apart
changes_its_keys_at_end p w (Reading v) key index apart = reading_keeps p w v key index (not_either (0x0201 == key) false apart).0
changes_its_keys_at_end p w (Failed severity id v1 v2) key index apart = same p key index

no_index : (a b : Bool) (x y : List ℕ) → b ≡ false → cond (a && b) x y ≡ y
no_index true true x y e = absurd cc
no_index true false x y e = refl
no_index false b x y e = refl

-- an entry with this index keeps its bytes
other_entry : (number : ℕ) (v : ℤ) (key index : ℕ) (e : Entry) (rest rest' : List ℕ) → index ≢ number → rest' ≡ rest → (a b : Bool) → (e.index == index) ≡ b → cond (a && b) (measured_by number v e) rest' ≡ cond (a && b) e.bytes rest
other_entry number v key index e rest rest' apart same true true at =
    no_index (e.pid == 0x0201) (e.index == number) (measured v e.bytes) e.bytes (ne_eqb e.index number (λ (one : e.index ≡ number). apart (sym (eqb-true e.index index at) ∙ one)))
other_entry number v key index e rest rest' apart same true false at = same
other_entry number v key index e rest rest' apart same false b at = same

other_sensor : (number : ℕ) (v : ℤ) (key index : ℕ) → index ≢ number → (es : List Entry) → lookup (update (measured_by number v) es) key index ≡ lookup es key index
other_sensor number v key index apart [] = refl
other_sensor number v key index apart (e ∷ es) =
    other_entry number v key index e (lookup es key index) (lookup (update (measured_by number v) es) key index) apart (other_sensor number v key index apart es) (e.pid == key) (e.index == index) refl

pub reading_changes_its_sensor : ReadingChangesItsSensor
unfolding after_commit
reading_changes_its_sensor p w v key index apart =
    record { root = other_sensor w.arg v key index apart p.root; added = refl; subs = λ k. refl }

pub leaves_the_rest_at_end : CommitLeavesTheRest
unfolding after_commit
leaves_the_rest_at_end p w Done = carried p w.sub (command_of w.pid Set) (Byte w.arg) (w.sub == 0) (w.sub == 0xFFFF) refl refl
leaves_the_rest_at_end p w (Reading v) = record { profile = refl; count = refl; root = λ n. absurd (n refl); added = λ n. refl; subs = λ k n m. refl }
leaves_the_rest_at_end p w (Failed severity id v1 v2) = unchanged p 0

pub failed_changes_nothing : FailedChangesNothing
unfolding after_commit
failed_changes_nothing p w severity id v1 v2 = refl

-- ---- the outcomes that a job can have

-- a slow GET is SENSOR_VALUE's, and a slow SET writes its own key
abbrev SlowFacts : Row → Type 0
SlowFacts r = (is_slow (command_in (Some r) Get) ≡ true → r.pid ≡ 0x0201) × (is_slow (command_in (Some r) Set) ≡ true → (profile : Profile) → keys_of_row profile r.pid ≡ r.pid ∷ [])

-- the same as a test
abbrev passes : Row → Bool
passes r =
    (not (is_slow (command_in (Some r) Get)) || (r.pid == 0x0201))
    && (not (is_slow (command_in (Some r) Set)) || (not (r.pid == 0x0090) && not (r.pid == 0x0202)))

slow_or : (slow b : Bool) → (not slow || b) ≡ true → slow ≡ true → b ≡ true
slow_or true b e slow = e
slow_or false b e slow = absurd cc

own_key : (pid : ℕ) → (not (pid == 0x0090) && not (pid == 0x0202)) ≡ true → (profile : Profile) → keys_of_row profile pid ≡ pid ∷ []
own_key pid e profile =
    let both = both_true (not (pid == 0x0090)) (not (pid == 0x0202)) e in
    rw (is_not (pid == 0x0090) both.0, is_not (pid == 0x0202) both.1) refl

row_says : (r : Row) → passes r ≡ true → SlowFacts r
row_says r e =
    let both = both_true (not (is_slow (command_in (Some r) Get)) || (r.pid == 0x0201)) (not (is_slow (command_in (Some r) Set)) || (not (r.pid == 0x0090) && not (r.pid == 0x0202))) e in (
      λ slow. eqb-true r.pid 0x0201 (slow_or (is_slow (command_in (Some r) Get)) (r.pid == 0x0201) both.0 slow),
      λ slow. own_key r.pid (slow_or (is_slow (command_in (Some r) Set)) (not (r.pid == 0x0090) && not (r.pid == 0x0202)) both.1 slow),
    )

all_say : (rows : List Row) → list_all passes rows ≡ true → AllByRecursion SlowFacts rows
all_say [] e = tt
all_say (r ∷ rows) e =
    let both = both_true (passes r) (list_all passes rows) e in
    (row_says r both.0, all_say rows both.1)

rows_pass : list_all passes table ≡ true
unfolding table
rows_pass = refl

rows_say : AllByRecursion SlowFacts table
rows_say = all_say table rows_pass

of_row : (pid : ℕ) (row : Option Row) → row_in table pid ≡ row → (is_slow (command_in row Get) ≡ true → pid ≡ 0x0201) × (is_slow (command_in row Set) ≡ true → (profile : Profile) → keys_of_row profile pid ≡ pid ∷ [])
of_row pid None e = (λ slow. absurd cc, λ slow. absurd cc)
of_row pid (Some r) e =
    let say = found SlowFacts table pid r rows_say e in
    subst (λ (n : ℕ). (is_slow (command_in (Some r) Get) ≡ true → n ≡ 0x0201) × (is_slow (command_in (Some r) Set) ≡ true → (profile : Profile) → keys_of_row profile n ≡ n ∷ [])) say.1 say.0

slow_says : (pid : ℕ) → (is_slow (command_of pid Get) ≡ true → pid ≡ 0x0201) × (is_slow (command_of pid Set) ≡ true → (profile : Profile) → keys_of_row profile pid ≡ pid ∷ [])
unfolding row_of
slow_says pid = of_row pid (row_in table pid) refl

one_key : (pid key : ℕ) (pids : List ℕ) → pids ≡ pid ∷ [] → key ≢ pid → list_any (λ k. k == key) pids ≡ false
one_key pid key pids e apart = rw (e, ne_eqb pid key (λ (at : pid ≡ key). apart (sym at))) refl

-- the keys of an outcome that fits are the one of the parameter, or none
its_key : (profile : Profile) (sub pid : ℕ) (verb : Verb) (arg : ℕ) (outcome : Outcome) (key : ℕ) → is_slow (command_of pid verb) ≡ true → ends verb outcome ≡ true → key ≢ pid → list_any (λ k. k == key) (keys_committed profile (record { sub = sub; pid = pid; verb = verb; arg = arg }) outcome) ≡ false
its_key profile sub pid Set arg Done key slow end apart = one_key pid key (keys_of_row profile pid) ((slow_says pid).1 slow profile) apart
its_key profile sub pid Get arg Done key slow end apart = absurd cc
its_key profile sub pid Get arg (Reading v) key slow end apart = one_key pid key (0x0201 ∷ []) (rw ((slow_says pid).0 slow) refl) apart
its_key profile sub pid Set arg (Reading v) key slow end apart = absurd cc
its_key profile sub pid verb arg (Failed severity id v1 v2) key slow end apart = refl

pub changes_its_key_at_end : CommitChangesItsKey
changes_its_key_at_end p w outcome key index fit apart =
    let both = both_true (is_slow (command_of w.pid w.verb)) (ends w.verb outcome) fit in
    changes_its_keys_at_end p w outcome key index (its_key p.profile w.sub w.pid w.verb w.arg outcome key both.0 both.1 apart)

-- ---- changes at the menu

-- what holds of the values as they are, and of those after the SET, holds of those after the change
either : (P : Parameters → Type 0) (test : Bool) (new old : Parameters) → P new → P old → P (cond test new old)
either P true new old one two = one
either P false new old one two = two

menu_key : (profile : Profile) (change : Change) → keys_of_row profile (changed_pid change) ≡ changed_pid change ∷ []
menu_key profile (changes.Start start) = refl
menu_key profile (changes.Personality number) = refl
menu_key profile (changes.Label plate) = refl

pub panel_changes_its_key : PanelChangesItsKey
unfolding after_change
panel_changes_its_key p change key index apart =
    either (SameAt key index p) (can_change p change) (carried_out p 0 (command_of (changed_pid change) Set) (changed_value change)) p
    (carried_same p 0 (changed_pid change) (changed_value change) key index (one_key (changed_pid change) key (keys_of_row p.profile (changed_pid change)) (menu_key p.profile change) apart)) (same p key index)

pub panel_leaves_the_rest : PanelLeavesTheRest
unfolding after_change
panel_leaves_the_rest p change =
    either (IsSameBut 0 p) (can_change p change) (carried_out p 0 (command_of (changed_pid change) Set) (changed_value change)) p
    (carried p 0 (command_of (changed_pid change) Set) (changed_value change) (0 == 0) (0 == 0xFFFF) refl refl) (unchanged p 0)
