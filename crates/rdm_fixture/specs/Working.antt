-- What a file says in vain: how jobs end that never begin, a status ID that nothing describes, and values of parameters that the
-- fixture lacks.
use Rattle.std.specs.Prelude.{◌≡◌, ℕ, ◌+◌, ◌<◌, ◌==◌, Bool, true, false, ◌&&◌, ◌||◌, not, if◌then◌else◌, nat_le, ◌⊎◌, IsTrue, pos, List, length, slice_get, slice_index_or, Option, ℤ, Some, None, is_some, codes}
use Rattle.std.specs.List.{list_any, list_all}
use Rattle.std.specs.Option.{option_map_or}
use Rattle.rdm_profile.specs.declared.profile.Profile.{Profile}
use Rattle.rdm_profile.specs.declared.profile.SelfTest.{SelfTest}
use Rattle.rdm_profile.specs.declared.profile.SensorDef.{SensorDef}
use Rattle.rdm_profile.specs.declared.profile.StatusText.{StatusText}
use Rattle.rdm_profile.specs.LeftOut.{leaves_out}
use Rattle.rdm_profile.specs.Profiles.{CanOpen, CanHold}
use Rattle.rdm_commands.specs.declared.jobs.outcome.Outcome.{Outcome}
use Rattle.rdm_commands.specs.declared.jobs.outcome.Outcome.TheVariants.{Failed}
use Rattle.rdm_outcomes.specs.declared.rule.Rule.{Rule}
use Rattle.rdm_outcomes.specs.declared.rule.Task.{Task}
use Rattle.rdm_outcomes.specs.declared.rule.Task.TheVariants.{LampState, PowerState, PerformSelfTest, SensorValue}
use Rattle.rdm_outcomes.specs.Outcomes.{task_pid}
use Rattle.rdm_fixture.specs.declared.fixture.Fixture.{Fixture}
use Rattle.rdm_fixture.specs.OverTime.{can_run}
use Rattle.rdm_courses.specs.declared.notice.Notice.{Notice}
use Rattle.rdm_fixture_keys.specs.declared.refusal.Agreement.{Agreement}
use Rattle.rdm_fixture_keys.specs.declared.refusal.Agreement.TheVariants as agreements
use Rattle.rdm_fixture_keys.specs.declared.refusal.Wanted.TheVariants as wanted
use Rattle.rdm_fixture.specs.declared.starting.Starting.{Starting}
use Rattle.rdm_fixture_keys.specs.Faults.{Fault, fault, in_entry}

-- ---- how jobs end

abbrev pub is_slow : SensorDef → Bool
is_slow sensor = not sensor.at_once

-- A command of the task with this value starts a job: a lamp state of table A-8, a power state of table A-11, a self test of the
-- profile, all of them or none, or a sensor that isn't answered at once. Without a value any will do.
abbrev pub starts_job : List SensorDef → List SelfTest → Task → Option ℕ → Bool
starts_job sensors tests LampState value = option_map_or (λ n. nat_le n 3) value true
starts_job sensors tests PowerState value = option_map_or (λ n. nat_le n 2 || (n == 0xFF)) value true
starts_job sensors tests PerformSelfTest value = option_map_or (λ n. ((n == 0) || (n == 0xFF)) || list_any (λ t. t.number == n) tests) value true
starts_job sensors tests SensorValue None = list_any is_slow sensors
starts_job sensors tests SensorValue (Some n) = option_map_or is_slow (slice_get sensors n) false

-- A failure has a status ID of the standard's, or one that the profile describes. Section 10.3.3.
abbrev pub is_known : List StatusText → ℕ → Bool
is_known texts id = not (nat_le 0x8000 id) || list_any (λ s. s.id == id) texts

abbrev pub is_explained : List StatusText → Outcome → Bool
is_explained texts (Failed severity id v1 v2) = is_known texts id
is_explained texts _ = true

-- why a rule says nothing of any job, if it doesn't
unfoldable pub idle_with : List ℕ → List SensorDef → List SelfTest → List StatusText → Rule → Option Agreement
idle_with pids sensors tests texts r =
    if leaves_out pids (task_pid r.task) then Some agreements.Lacked
    else if not (starts_job sensors tests r.task r.value) then Some agreements.Unasked
    else if not (is_explained texts r.outcome) then Some agreements.Unexplained else None

abbrev pub idle : Profile → Rule → Option Agreement
idle p = idle_with p.particulars.without.items p.sensors.items p.tests.items p.status_texts.items

-- the key that is wrong then
abbrev pub idle_key : Agreement → Option ℕ → List ℕ
idle_key agreements.Unexplained value = codes "status_id"
idle_key agreements.Unasked (Some n) = codes "value"
idle_key _ value = codes "parameter"

-- the rule at n (from 0) is the first that says nothing
pub record IsFirstIdle (idle_by : Rule → Option Agreement) (rules : List Rule) (n : ℕ) (why : Agreement) : Type 0 where
  pub there : n < length rules
  pub before : (i : ℕ) (d : Rule) → i < n → idle_by (slice_index_or rules i d) ≡ None
  pub here : (d : Rule) → idle_by (slice_index_or rules n d) ≡ Some why

pub record IdleRule (p : Profile) (rules : List Rule) (f : Fault) : Type 0 where
  pub n : ℕ
  pub why : Agreement
  pub first : IsFirstIdle (idle p) rules n why
  pub told : (d : Rule) → f ≡ in_entry (codes "outcome") (n + 1) (fault (idle_key why (slice_index_or rules n d).value) (wanted.Agreement why))

-- ---- values of what the fixture lacks

-- sensors are described only where SENSOR_DEFINITION tells of them. Section 10.7.1.
abbrev pub tells_sensors : List ℕ → List SensorDef → Bool
tells_sensors pids sensors = not (leaves_out pids 0x0200) || (length sensors == 0)

-- a counter has a value only where it can be read. Sections 10.8.1 to 10.8.6.
abbrev pub can_count : List ℕ → ℕ → ℕ → Bool
can_count pids pid value = not (leaves_out pids pid) || (value == 0)

abbrev pub can_count_all : List ℕ → Starting → Bool
can_count_all pids s =
    can_count pids 0x0400 s.device_hours && (can_count pids 0x0401 s.lamp_hours && (can_count pids 0x0402 s.lamp_strikes && can_count pids 0x0405 s.device_power_cycles))

-- and what a sensor measures is told only by SENSOR_VALUE. Section 10.7.2.
abbrev pub can_measure : List ℕ → List (Option ℤ) → Bool
can_measure pids presents = not (leaves_out pids 0x0201) || list_all (λ o. not (is_some o)) presents

abbrev pub can_start_so : List ℕ → Starting → Bool
can_start_so pids s = can_count_all pids s && (can_measure pids s.presents.items && can_run pids s.courses.items)

-- ---- status messages

-- a message has a status ID of the standard's, or one that the profile describes, and is one of a device that there is. Section 10.3.2.
abbrev pub stands : ℕ → List StatusText → Notice → Bool
stands subs texts n = is_known texts n.id && nat_le n.sub subs

abbrev pub AllStand : ℕ → List StatusText → List Notice → Type 0
AllStand subs texts ns = (i : ℕ) (d : Notice) → i < length ns → stands subs texts (slice_index_or ns i d) ≡ true

-- the message at n (from 0) is the first that doesn't
pub record IsFirstFallen (subs : ℕ) (texts : List StatusText) (ns : List Notice) (n : ℕ) : Type 0 where
  pub there : n < length ns
  pub before : (i : ℕ) (d : Notice) → i < n → stands subs texts (slice_index_or ns i d) ≡ true
  pub here : (d : Notice) → stands subs texts (slice_index_or ns n d) ≡ false

-- what is wrong in it then
abbrev pub fallen_fault : ℕ → List StatusText → Notice → Fault
fallen_fault subs texts n =
    if is_known texts n.id then fault (codes "sub_device") (wanted.Number (pos 0) (pos subs))
    else fault (codes "status_id") (wanted.Agreement agreements.Unexplained)

pub record FallenNotice (subs : ℕ) (texts : List StatusText) (ns : List Notice) (f : Fault) : Type 0 where
  pub n : ℕ
  pub first : IsFirstFallen subs texts ns n
  pub told : (d : Notice) → f ≡ in_entry (codes "status_message") (n + 1) (fallen_fault subs texts (slice_index_or ns n d))

-- ---- the whole

-- each rule says something
abbrev pub AreUsedWith : (Rule → Option Agreement) → List Rule → Type 0
AreUsedWith idle_by rules = (i : ℕ) (d : Rule) → i < length rules → idle_by (slice_index_or rules i d) ≡ None

abbrev pub AreUsed : Profile → List Rule → Type 0
AreUsed p = AreUsedWith (idle p)

-- Nothing is said in vain: LOCK_STATE can be read, and has LOCK_PIN beside it; and each lock holds what the root can be set, and can be
-- opened again.
pub record CanWork (f : Fixture) : Type 0 where
  pub opened : CanOpen f.profile.particulars.own
  pub held : CanHold f.profile.particulars.without.items f.profile.particulars.own f.profile.particulars.locks
  pub rules : AreUsed f.profile f.outcomes.items
  pub sensors : IsTrue (tells_sensors f.profile.particulars.without.items f.profile.sensors.items)
  pub start : IsTrue (can_start_so f.profile.particulars.without.items f.start)
  pub notices : AllStand f.profile.subs f.profile.status_texts.items f.start.notices.items

abbrev pub without_fault : Agreement → Fault
without_fault why = fault (codes "without") (wanted.Agreement why)

-- the first outcome that is, sensors that are, values to start with, or the first status message
abbrev pub IsIdleElse : Fixture → Fault → Type 0
IsIdleElse f e =
    IdleRule f.profile f.outcomes.items e
    ⊎ (AreUsed f.profile f.outcomes.items × (((tells_sensors f.profile.particulars.without.items f.profile.sensors.items ≡ false) × (e ≡ without_fault agreements.Sensors))
    ⊎ (IsTrue (tells_sensors f.profile.particulars.without.items f.profile.sensors.items)
    × (((can_start_so f.profile.particulars.without.items f.start ≡ false) × (e ≡ without_fault agreements.Started))
    ⊎ (IsTrue (can_start_so f.profile.particulars.without.items f.start)
    × FallenNotice f.profile.subs f.profile.status_texts.items f.start.notices.items e)))))

-- the first thing that is, and what is told of it
abbrev pub IsIdle : Fixture → Fault → Type 0
IsIdle f e =
    ((¬ CanOpen f.profile.particulars.own) × (e ≡ fault (codes "parameter") (wanted.Agreement agreements.Opened)))
    ⊎ (CanOpen f.profile.particulars.own × (((¬ CanHold f.profile.particulars.without.items f.profile.particulars.own f.profile.particulars.locks) × (e ≡ fault (codes "lock") (wanted.Agreement agreements.Held)))
    ⊎ (CanHold f.profile.particulars.without.items f.profile.particulars.own f.profile.particulars.locks × IsIdleElse f e)))
