-- What is said of slow commands where a profile says nothing of them, and of sensors that are answered at once.
use Rattle.std.proofs.Common.{◌≡◌, ℕ, ◌&&◌, Bool, true, false, cond, List, [], ◌∷◌, length, Option, Some, None, Ok, refl, ap, ◌∙◌}
use Rattle.std.specs.Prelude.{nat_lt, slice_get}
use Rattle.std.specs.Option.{option_map_or}
use Rattle.std.proofs.lemmas.Bool.{lt-ltb}
use Rattle.std.proofs.lemmas.Option.{slice_get_within}
use Rattle.rdm_frame.specs.declared.nack.Nack.TheVariants.{DataOutOfRange, SubDeviceOutOfRange}
use Rattle.rdm_table.specs.declared.kind.Verb.{Verb}
use Rattle.rdm_table.specs.declared.kind.Verb.TheVariants.{Get, Set}
use Rattle.rdm_commands.specs.declared.verdict.Verdict.{Verdict}
use Rattle.rdm_table.specs.declared.slow.Slow.TheVariants.{Lamp, Power, SelfTest, Sensor}
use Rattle.rdm_table.specs.declared.way.Way.{Way}
use Rattle.rdm_table.specs.declared.way.Way.TheVariants.{AtOnce, ByJob, FromQueue, FromStatus, Clears}
use Rattle.rdm_profile.specs.declared.profile.estimates.Estimates.{Estimates}
use Rattle.rdm_profile.specs.declared.profile.Profile.{Profile}
use Rattle.rdm_profile.specs.declared.profile.SensorDef.{SensorDef}
use Rattle.rdm_profile.specs.declared.value.Value.TheVariants.{Byte}
use Rattle.rdm_device.specs.Columns.Changes.{unchanged, sensors_reset}
use Rattle.rdm_profile.specs.Forms.{byte}
use Rattle.rdm_device.specs.Columns.Ranges.{a_sensor, sensors}
use Rattle.rdm_device.specs.Columns.Replies.{sensor_measured}
use Rattle.rdm_profile.specs.Estimates.{usual}
use Rattle.rdm_profile.specs.Workers.{usual_workers}
use Rattle.rdm_profile.specs.declared.profile.workers.Workers.{Workers}
use Rattle.rdm_profile.specs.Values.{byte_or_0}
use Rattle.rdm_added.specs.Parameters.{Parameters}
use Rattle.rdm_table.specs.Table.Rows.{command_of, Command, Row, row, root, measures, sets, table, row_of, row_at, command_in}
use Rattle.rdm_commands.specs.Commands.Commands.{root_spot, got, got_by_row, accepted, known, read_data, check, ◌>>=◌, verdict, answered, work}
use Rattle.rdm_commands.specs.Jobs.Asks.{ask_of}
use Rattle.rdm_params.specs.Jobs.Laws.{table_estimate, table_worker, UsualTakesTheTablesTime, UsualHasTheTablesWorkers, UsualIsAnsweredByTheTable, SensorIsAnsweredAtOnce}
use Rattle.rdm_commands.specs.Jobs.Work.{estimate_in, worker_in}
use Rattle.rdm_table.specs.Table.Uses.{access, way_of, way_here, needs_no_job, is_at_once, is_by_job, is_slow}
use Rattle.rdm_commands.proofs.AddedCommands.{tabled}
use Rattle.rdm_params.proofs.RowFacts.{FactsOfWay, Facts, facts_of}

-- ---- the time

time_in : (pid : ℕ) (verb : Verb) (c : Command) (way : Way) → FactsOfWay pid verb c way → is_by_job way ≡ true → estimate_in usual way ≡ table_estimate pid
time_in pid verb c AtOnce facts slow = absurd cc
time_in pid verb c (ByJob kind) facts slow = facts.1.1.0
time_in pid verb c FromQueue facts slow = absurd cc
time_in pid verb c FromStatus facts slow = absurd cc
time_in pid verb c Clears facts slow = absurd cc

time_of : (pid : ℕ) (verb : Verb) (o : Option Command) → Facts pid verb o → is_slow o ≡ true → estimate_in usual (way_of o) ≡ table_estimate pid
time_of pid verb None facts slow = absurd cc
time_of pid verb (Some c) facts slow = time_in pid verb c c.way facts slow

pub usual_takes_the_tables_time : UsualTakesTheTablesTime
usual_takes_the_tables_time p w same slow =
    let command = command_of w.pid w.verb in
    ap (λ (e : Estimates). estimate_in e (way_of command)) same ∙ time_of w.pid w.verb command (facts_of w.pid w.verb) slow

-- ---- the worker

worker_is : (pid : ℕ) (verb : Verb) (c : Command) (way : Way) → FactsOfWay pid verb c way → is_by_job way ≡ true → worker_in usual_workers way ≡ table_worker pid
worker_is pid verb c AtOnce facts slow = absurd cc
worker_is pid verb c (ByJob kind) facts slow = facts.1.1.1
worker_is pid verb c FromQueue facts slow = absurd cc
worker_is pid verb c FromStatus facts slow = absurd cc
worker_is pid verb c Clears facts slow = absurd cc

worker_for_command : (pid : ℕ) (verb : Verb) (o : Option Command) → Facts pid verb o → is_slow o ≡ true → worker_in usual_workers (way_of o) ≡ table_worker pid
worker_for_command pid verb None facts slow = absurd cc
worker_for_command pid verb (Some c) facts slow = worker_is pid verb c c.way facts slow

pub usual_has_the_tables_workers : UsualHasTheTablesWorkers
usual_has_the_tables_workers p w same slow =
    let command = command_of w.pid w.verb in
    ap (λ (ws : Workers). worker_in ws (way_of command)) same ∙ worker_for_command w.pid w.verb command (facts_of w.pid w.verb) slow

-- ---- the way

all_need_a_job : (p : Profile) (way : Way) (arg : ℕ) → is_at_once p arg ≡ false → needs_no_job p way arg ≡ false
all_need_a_job p (ByJob Lamp) arg e = refl
all_need_a_job p (ByJob Power) arg e = refl
all_need_a_job p (ByJob SelfTest) arg e = refl
all_need_a_job p (ByJob Sensor) arg e = e
all_need_a_job p AtOnce arg e = refl
all_need_a_job p FromQueue arg e = refl
all_need_a_job p FromStatus arg e = refl
all_need_a_job p Clears arg e = refl

as_the_row : (p : Profile) (way : Way) (verb : Verb) (arg : ℕ) → is_at_once p arg ≡ false → way_here p way verb arg ≡ way
as_the_row p way Get arg e = ap (λ (quick : Bool). cond quick AtOnce way) (all_need_a_job p way arg e)
as_the_row p way Set arg e = refl

pub usual_is_answered_by_the_table : UsualIsAnsweredByTheTable
usual_is_answered_by_the_table p command verb v none = as_the_row p (way_of command) verb (byte_or_0 v) (none (byte_or_0 v))

-- ---- a sensor that is answered at once

there_is : (ds : List SensorDef) (n : ℕ) (o : Option SensorDef) → slice_get ds n ≡ o → option_map_or (λ d. d.at_once) o false ≡ true → nat_lt n (length ds) ≡ true
there_is ds n None e once = absurd cc
there_is ds n (Some d) e once = lt-ltb n (length ds) (slice_get_within ds n d e)

abbrev sensor_row : Row
sensor_row = row 0x0201 root (measures Sensor a_sensor sensor_measured) (sets byte sensors sensors_reset unchanged sensor_measured)

table_has_it : row_of 0x0201 ≡ Some sensor_row
unfolding row_of table
table_has_it = refl

can_ask : access (row_of 0x0201) true Get ≡ Ok tt
can_ask = ap (λ (row : Option Row). access row true Get) table_has_it

-- what is answered if the devices have this row, if the number is that of a sensor, and if it is answered at once
abbrev asked : Parameters → ℕ → Option Row → Verdict
asked p n row = verdict p 0 0x0201 (command_in row Get) Get (known p 0 row Get >>= (λ u. read_data p 0 (command_in row Get) Get (n ∷ [])))

abbrev ranged : Parameters → ℕ → Bool → Verdict
ranged p n within = verdict p 0 0x0201 (sensor_row.get) Get ((check (within && true) DataOutOfRange >>= (λ u. check true SubDeviceOutOfRange)) >>= (λ u. Ok (Byte n)))

abbrev timed : Parameters → ℕ → Bool → Verdict
timed p n quick = answered (cond quick AtOnce (ByJob Sensor)) (sensor_measured (root_spot p) (Byte n)) (work 0 0x0201 Get (Byte n)) (ask_of n)

got_is : (p : Parameters) (n : ℕ) → got p 0 0x0201 (n ∷ []) ≡ asked p n (row_at p.profile 0x0201)
unfolding got got_by_row accepted
got_is p n = refl

pub sensor_at_once : SensorIsAnsweredAtOnce
sensor_at_once p n once stays =
    got_is p n
    ∙ ap (asked p n) (tabled p.profile 0x0201 true Get stays can_ask ∙ table_has_it)
    ∙ ap (ranged p n) (there_is p.profile.sensors.items n (slice_get p.profile.sensors.items n) refl once)
    ∙ ap (timed p n) once
