-- What the rows say of commands that aren't answered at once.
use Rattle.std.proofs.Common.{◌≡◌, ℕ, Bool, true, false, cond, Option, Some, None, refl, sym, ap, ◌∙◌, subst}
use Rattle.std.specs.List.{AllByRecursion}
use Rattle.rdm_table.specs.declared.kind.Verb.{Verb}
use Rattle.rdm_table.specs.declared.kind.Verb.TheVariants.{Get, Set}
use Rattle.rdm_table.specs.declared.way.Way.{Way}
use Rattle.rdm_table.specs.declared.way.Way.TheVariants.{AtOnce, ByJob, FromQueue, FromStatus, Clears}
use Rattle.rdm_profile.specs.declared.value.Value.{Value}
use Rattle.rdm_table.specs.Table.Rows.{command_of, Command, Row, table, row_of, row_in, is_left_out, added_rows, added_row, gets_added, takes_added, command_in}
use Rattle.rdm_commands.specs.Commands.Commands.{command_at}
use Rattle.rdm_commands.specs.Commands.Added.{row_here}
use Rattle.rdm_profile.specs.Forms.{byte}
use Rattle.rdm_device.specs.Columns.Ranges.{a_message_type}
use Rattle.rdm_profile.specs.declared.profile.own.ParameterDef.{ParameterDef}
use Rattle.rdm_profile.specs.declared.profile.own.Shape.{Shape}
use Rattle.rdm_profile.specs.declared.profile.own.Shape.TheVariants as shapes
use Rattle.rdm_profile.specs.declared.profile.Profile.{Profile}
use Rattle.rdm_added.specs.Added.{set_form, set_range, own_stored}
use Rattle.rdm_profile.specs.OwnParameters.{has_get, has_set}
use Rattle.rdm_added.specs.Parameters.{Parameters}
use Rattle.rdm_added.specs.Spot.{Spot}
use Rattle.rdm_table.specs.Table.Uses.{way_of, is_by_job, is_slow, estimate_for, worker_for}
use Rattle.rdm_params.specs.Jobs.Laws.{table_estimate, table_worker}
use Rattle.rdm_profile.specs.Estimates.{usual}
use Rattle.rdm_profile.specs.Workers.{usual_workers}
use Rattle.rdm_commands.proofs.AddedRows.{row_has, added_have, here_is}
use Rattle.rdm_table.proofs.Rows.{found}

-- the range of a command looks at the profile alone
abbrev pub ByProfile : Command → Type 0
ByProfile c = (s t : Spot) (v : Value) → s.profile ≡ t.profile → c.range s v ≡ c.range t v

-- of a command that is answered in this way
abbrev pub FactsOfWay : ℕ → Verb → Command → Way → Type 0
FactsOfWay pid verb c AtOnce = Unit {0}
FactsOfWay pid verb c (ByJob slow) = ByProfile c × ((c.form ≡ byte) × ((estimate_for usual slow ≡ table_estimate pid) × (worker_for usual_workers slow ≡ table_worker pid)))
FactsOfWay pid verb c FromQueue = (pid ≡ 0x0020) × ((verb ≡ Get) × ((s : Spot) (v : Value) → c.range s v ≡ a_message_type byte s v))
FactsOfWay pid verb c FromStatus = (pid ≡ 0x0030) × (verb ≡ Get)
FactsOfWay pid verb c Clears = (pid ≡ 0x0032) × (verb ≡ Set)

abbrev pub Facts : ℕ → Verb → Option Command → Type 0
Facts pid verb None = Unit {0}
Facts pid verb (Some c) = FactsOfWay pid verb c c.way

abbrev RowFacts : Row → Type 0
RowFacts r = Facts r.pid Get r.get × Facts r.pid Set r.set

abbrev quick : Unit {0} × Unit {0}
quick = (tt, tt)

rows_say : AllByRecursion RowFacts table
unfolding table
rows_say =
    (((refl, (refl, λ s v. refl)), tt), (((refl, refl), tt), (quick, ((tt, (refl, refl)), (quick, (quick, (quick, (quick, (quick, (quick, (quick, (quick, (quick, (quick, (quick, (quick, (quick, (quick, (quick, (quick, (quick, (quick, (quick, ((((λ s t v same. rw same refl), (refl, (refl, refl))), tt), (quick, (quick, (quick, (quick, ((tt, ((λ s t v same. refl), (refl, (refl, refl)))), (quick, (quick, (quick, (quick, (quick, (quick, (quick, (quick, ((tt, ((λ s t v same. refl), (refl, (refl, refl)))), ((tt, ((λ s t v same. rw same refl), (refl, (refl, refl)))), (quick, (quick, tt)))))))))))))))))))))))))))))))))))))))))

of_verb : (pid : ℕ) (r : Row) (verb : Verb) → Facts pid Get r.get × Facts pid Set r.set → Facts pid verb (command_in (Some r) verb)
of_verb pid r Get facts = facts.0
of_verb pid r Set facts = facts.1

of_row : (pid : ℕ) (row : Option Row) → row_in table pid ≡ row → (verb : Verb) → Facts pid verb (command_in row verb)
of_row pid None e verb = tt
of_row pid (Some r) e verb =
    let say = found RowFacts table pid r rows_say e in
    of_verb pid r verb (subst (λ (n : ℕ). Facts n Get r.get × Facts n Set r.set) say.1 say.0)

-- of the command that the table has for a PID
pub facts_of : (pid : ℕ) (verb : Verb) → Facts pid verb (command_of pid verb)
unfolding row_of
facts_of pid verb = of_row pid (row_in table pid) refl verb

-- ---- of the command that a profile's devices have for a PID

shape_facts : (pid : ℕ) (shape : Shape) (d : ParameterDef) → Facts pid Get (gets_added shape d d.pid)
shape_facts pid shapes.Byte d = tt
shape_facts pid shapes.Word d = tt
shape_facts pid shapes.Long d = tt
shape_facts pid shapes.SignedByte d = tt
shape_facts pid shapes.SignedWord d = tt
shape_facts pid shapes.SignedLong d = tt
shape_facts pid shapes.Text d = tt
shape_facts pid (shapes.Bits n) d = tt
shape_facts pid (shapes.Slots n) d = tt
shape_facts pid shapes.Choice d = tt
shape_facts pid shapes.Names d = tt
shape_facts pid shapes.Rates d = tt
shape_facts pid shapes.Scenes d = tt
shape_facts pid shapes.Lock d = tt
shape_facts pid shapes.Pin d = tt
shape_facts pid shapes.Block d = tt

get_facts : (pid : ℕ) (d : ParameterDef) (has : Bool) → Facts pid Get (cond has (gets_added d.shape d d.pid) None)
get_facts pid d true = shape_facts pid d.shape d
get_facts pid d false = tt

set_facts : (pid : ℕ) (d : ParameterDef) (has : Bool) → Facts pid Set (cond has (takes_added (set_form d) (set_range d) (own_stored d) d.pid) None)
set_facts pid d true = tt
set_facts pid d false = tt

added_say : (d : ParameterDef) → RowFacts (added_row d)
added_say d = (get_facts d.pid d (has_get d.rights), set_facts d.pid d (has_set d.rights))

of_added : (p : Profile) (pid : ℕ) (row : Option Row) → row_in (added_rows p) pid ≡ row → (verb : Verb) → Facts pid verb (command_in row verb)
of_added p pid None e verb = tt
of_added p pid (Some r) e verb =
    let say = found RowFacts (added_rows p) pid r (added_have RowFacts quick added_say p) e in
    of_verb pid r verb (subst (λ (n : ℕ). Facts n Get r.get × Facts n Set r.set) say.1 say.0)

pub facts_at : (p : Parameters) (pid : ℕ) (verb : Verb) → Facts pid verb (command_at p pid verb)
facts_at p pid verb =
    row_has (λ (row : Option Row). Facts pid verb (command_in row verb)) (is_left_out p.profile pid) (row_of pid) (row_here p.profile pid) tt (facts_of pid verb) (λ none. of_added p.profile pid (row_here p.profile pid) refl verb)

never : false ≡ true → ⊥
never e = cc

not_slow : (command : Option Command) → way_of command ≡ AtOnce → is_slow command ≡ true → ⊥
not_slow command e slow = never (sym (ap is_by_job e) ∙ slow)

-- what is slow at a profile is slow in the table
pub slow_at : (p : Parameters) (pid : ℕ) (verb : Verb) → is_slow (command_at p pid verb) ≡ true → command_at p pid verb ≡ command_of pid verb
slow_at p pid verb =
    row_has (λ (row : Option Row). is_slow (command_in row verb) ≡ true → command_in row verb ≡ command_of pid verb) (is_left_out p.profile pid) (row_of pid) (row_here p.profile pid) (λ slow. absurd (never slow)) (λ slow. refl) (λ none slow. absurd (not_slow (command_in (row_here p.profile pid) verb) ((here_is p.profile pid).way verb) slow))
