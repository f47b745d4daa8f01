-- What rules give is an outcome that the slow command can have.
use Rattle.std.proofs.Common.{◌≡◌, ℕ, ℤ, pos, ◌+◌, ◌==◌, ◌&&◌, Bool, true, false, cond, List, [], ◌∷◌, Option, Some, None, refl, subst, sym}
use Rattle.std.specs.List.{AllByRecursion}
use Rattle.std.specs.Prelude.{find}
use Rattle.std.proofs.lemmas.Bool.{and_parts, eqb-true}
use Rattle.rdm_table.specs.declared.kind.Verb.{Verb}
use Rattle.rdm_table.specs.declared.kind.Verb.TheVariants.{Get, Set}
use Rattle.rdm_commands.specs.declared.jobs.outcome.Outcome.{Outcome}
use Rattle.rdm_commands.specs.declared.jobs.outcome.Outcome.TheVariants.{Done, Reading, Failed}
use Rattle.rdm_params.specs.Table.Rows.{command_of, Command, Row, table, row_of, row_in, command_in}
use Rattle.rdm_params.specs.Jobs.Outcome.{ends, fits}
use Rattle.rdm_params.specs.Table.Uses.{is_slow}
use Rattle.rdm_table.proofs.Rows.{found}
use Rattle.rdm_outbox.specs.declared.job.Job.{Job}
use Rattle.rdm_outcomes.specs.declared.planned.Counted.{Counted}
use Rattle.rdm_outcomes.specs.declared.rule.Rule.{Rule}
use Rattle.rdm_outcomes.specs.declared.rule.Task.{Task}
use Rattle.rdm_outcomes.specs.declared.rule.Task.TheVariants.{LampState, PowerState, PerformSelfTest, SensorValue}
use Rattle.rdm_outcomes.specs.Outcomes.{task_pid, suits, holds, is_for, outcome_by, outcome_at, CanEnd}

-- ---- the slow commands of the table: GET SENSOR_VALUE, and SETs of other parameters

abbrev SlowGet : ℕ → Option Command → Type 0
SlowGet pid o = is_slow o ≡ true → (pid == 0x0201) ≡ true

abbrev SlowSet : ℕ → Option Command → Type 0
SlowSet pid o = is_slow o ≡ true → (pid == 0x0201) ≡ false

abbrev SlowRow : Row → Type 0
SlowRow r = SlowGet r.pid r.get × SlowSet r.pid r.set

never : {A : Type 0} → false ≡ true → A
never e = absurd cc

rows_say : AllByRecursion SlowRow table
unfolding table
rows_say =
    ((never, never), ((never, never), ((never, never), ((never, never), ((never, never), ((never, never), ((never, never), ((never, never), ((never, never), ((never, never), ((never, never), ((never, never), ((never, never), ((never, never), ((never, never), ((never, never), ((never, never), ((never, never), ((never, never), ((never, never), ((never, never), ((never, never), ((never, never), ((λ slow. refl, never), ((never, never), ((never, never), ((never, never), ((never, never), ((never, λ slow. refl), ((never, never), ((never, never), ((never, never), ((never, never), ((never, never), ((never, never), ((never, never), ((never, never), ((never, λ slow. refl), ((never, λ slow. refl), ((never, never), ((never, never), tt)))))))))))))))))))))))))))))))))))))))))

of_row : (pid : ℕ) (row : Option Row) → row_in table pid ≡ row → SlowGet pid (command_in row Get) × SlowSet pid (command_in row Set)
of_row pid None e = (never, never)
of_row pid (Some r) e =
    let say = found SlowRow table pid r rows_say e in
    subst (λ (n : ℕ). SlowGet n r.get × SlowSet n r.set) say.1 say.0

slow_of : (pid : ℕ) → SlowGet pid (command_of pid Get) × SlowSet pid (command_of pid Set)
unfolding row_of
slow_of pid = of_row pid (row_in table pid) refl

-- ---- what a rule gives

no_sensor : (pid p : ℕ) → (pid == p) ≡ true → (p == 0x0201) ≡ false → is_slow (command_of pid Get) ≡ true → ⊥
no_sensor pid p e other slow =
    let is : pid ≡ p = eqb-true pid p e in
    let sensor : (p == 0x0201) ≡ true = subst (λ (n : ℕ). (n == 0x0201) ≡ true) is ((slow_of pid).0 slow) in
    absurd cc

a_sensor : (pid : ℕ) → (pid == 0x0201) ≡ true → is_slow (command_of pid Set) ≡ true → ⊥
a_sensor pid e slow =
    let other = (slow_of pid).1 slow in
    absurd cc

none : {A : Type 0} → ⊥ → A
none e = absurd e

rule_ends : (task : Task) (outcome : Outcome) (pid : ℕ) (verb : Verb) → (pid == task_pid task) ≡ true → suits task outcome ≡ true → is_slow (command_of pid verb) ≡ true → ends verb outcome ≡ true
rule_ends task (Failed severity id v1 v2) pid Get here suit slow = refl
rule_ends task (Failed severity id v1 v2) pid Set here suit slow = refl
rule_ends SensorValue (Reading value) pid Get here suit slow = refl
rule_ends SensorValue (Reading value) pid Set here suit slow = none (a_sensor pid here slow)
rule_ends LampState (Reading value) pid verb here suit slow = absurd cc
rule_ends PowerState (Reading value) pid verb here suit slow = absurd cc
rule_ends PerformSelfTest (Reading value) pid verb here suit slow = absurd cc
rule_ends SensorValue Done pid verb here suit slow = absurd cc
rule_ends LampState Done pid Get here suit slow = none (no_sensor pid 0x0403 here refl slow)
rule_ends PowerState Done pid Get here suit slow = none (no_sensor pid 0x1010 here refl slow)
rule_ends PerformSelfTest Done pid Get here suit slow = none (no_sensor pid 0x1020 here refl slow)
rule_ends LampState Done pid Set here suit slow = refl
rule_ends PowerState Done pid Set here suit slow = refl
rule_ends PerformSelfTest Done pid Set here suit slow = refl

-- ---- what is given without a rule

reads : (v : ℤ) (sensor : Bool) → sensor ≡ true → ends Get (cond sensor (Reading v) Done) ≡ true
reads v true e = refl
reads v false e = absurd cc

is_done : (v : ℤ) (sensor : Bool) → sensor ≡ false → ends Set (cond sensor (Reading v) Done) ≡ true
is_done v true e = absurd cc
is_done v false e = refl

usual_ends : (pid : ℕ) (verb : Verb) (v : ℤ) → is_slow (command_of pid verb) ≡ true → ends verb (cond (pid == 0x0201) (Reading v) Done) ≡ true
usual_ends pid Get v slow = reads v (pid == 0x0201) ((slow_of pid).0 slow)
usual_ends pid Set v slow = is_done v (pid == 0x0201) ((slow_of pid).1 slow)

-- ---- what a list of rules gives

chosen : (c : Counted) (later : Option Counted) (job : Job) → (holds c.rule c.seen job ≡ true → ends job.work.verb c.rule.outcome ≡ true) → ends job.work.verb (outcome_by later job) ≡ true → (h : Bool) → holds c.rule c.seen job ≡ h → ends job.work.verb (outcome_by (cond h (Some c) later) job) ≡ true
chosen c later job own rest true e = own e
chosen c later job own rest false e = rest

all_end : (counted : List Counted) (job : Job) → is_slow (command_of job.work.pid job.work.verb) ≡ true → ends job.work.verb (outcome_at counted job) ≡ true
all_end [] job slow = usual_ends job.work.pid job.work.verb (pos (25 + job.work.arg)) slow
all_end (c ∷ cs) job slow =
    chosen c (find (λ (d : Counted). holds d.rule d.seen job) cs) job
    (λ e.
    let parts = and_parts (is_for c.rule job) _ e in
    rule_ends c.rule.task c.rule.outcome job.work.pid job.work.verb (and_parts (job.work.pid == task_pid c.rule.task) _ parts.0).0 (and_parts (suits c.rule.task c.rule.outcome) _ parts.1).0 slow)
    (all_end cs job slow) (holds c.rule c.seen job) refl

both_hold : (a b : Bool) → a ≡ true → b ≡ true → (a && b) ≡ true
both_hold a b e f = rw (e, f) refl

pub all_fit : (rules : List Rule) (job : Job) (outcome : Outcome) → is_slow (command_of job.work.pid job.work.verb) ≡ true → CanEnd rules job outcome → fits job.work outcome ≡ true
all_fit rules job outcome slow can =
    both_hold _ _ slow (subst (λ (o : Outcome). ends job.work.verb o ≡ true) (sym can.2) (all_end can.0 job slow))
