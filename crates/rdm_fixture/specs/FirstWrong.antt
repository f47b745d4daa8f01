-- What the tables of a fixture are looked at for, part by part, in the order in which it is done.
use Rattle.std.specs.Prelude.{◌≡◌, ◌≢◌, ℕ, ◌+◌, ◌<◌, ◌≤◌, Bool, ℤ, pos, neg_ℤ, true, false, ◌⊎◌, IsTrue, List, [], ◌∷◌, ◌++◌, length, map, slice_index_or, Option, Some, None, IsSome, AllPairs, codes}
use Rattle.toml.specs.Data.{Data, table, array, Members, get_member}
use Rattle.rdm_profile.specs.declared.profile.estimates.Estimates.{Estimates}
use Rattle.rdm_profile.specs.declared.profile.Unit.{Unit as DeviceUnit}
use Rattle.rdm_profile.specs.declared.profile.workers.Workers.{Workers}
use Rattle.rdm_profile.specs.declared.profile.choices.ChoiceName.{ChoiceName}
use Rattle.rdm_profile.specs.declared.profile.fields.Field.{Field}
use Rattle.rdm_profile.specs.declared.profile.locks.Lock.{Lock}
use Rattle.rdm_profile.specs.declared.profile.modes.Mode.{Mode}
use Rattle.rdm_profile.specs.declared.profile.own.ParameterDef.{ParameterDef}
use Rattle.rdm_profile.specs.declared.profile.own.Shape.{Shape}
use Rattle.rdm_profile.specs.declared.profile.own.Shape.TheVariants as shapes
use Rattle.rdm_profile.specs.LeftOut.{leave_no_need}
use Rattle.rdm_profile.specs.OwnParameters.{can_start, has_good_fields}
use Rattle.rdm_profile.specs.Modes.{shape_of}
use Rattle.rdm_profile.specs.Profiles.{AreGoodModes, AreOptional, Agree, HaveStates}
use Rattle.rdm_profile.specs.Standards.{follows}
use Rattle.rdm_commands.specs.declared.jobs.outcome.Outcome.{Outcome}
use Rattle.rdm_commands.specs.declared.jobs.outcome.Outcome.TheVariants.{Done, Reading, Failed}
use Rattle.rdm_outcomes.specs.declared.rule.Task.{Task}
use Rattle.rdm_outcomes.specs.Outcomes as rules
use Rattle.rdm_fixture.specs.declared.fixture.Fixture.{Fixture}
use Rattle.rdm_fixture.specs.declared.profile.locks.Locking.{Locking}
use Rattle.rdm_fixture_keys.specs.declared.refusal.Agreement.TheVariants as agreements
use Rattle.rdm_fixture_keys.specs.declared.refusal.Wanted.{Wanted}
use Rattle.rdm_fixture_keys.specs.declared.refusal.Wanted.TheVariants as wanted
use Rattle.rdm_fixture_keys.specs.declared.refusal.Section.TheVariants as sections
use Rattle.rdm_fixture_keys.specs.Faults.{Fault, fault, in_entry, in_section}
use Rattle.rdm_fixture_keys.specs.Entries.{IsPersonality, IsSlot, IsSensor, IsSelfTest, IsStatus, IsChoice, personality_parts, slot_parts, sensor_parts, self_test_parts, status_parts, choice_parts}
use Rattle.rdm_fixture.specs.Format.{IsLocking, AreLocks, all_locks, IsUnit, SubDevices, EstimatesAt, WorkersAt, IsMuteReply, LanguagesAt, IsProfile, SaysFixture, locking_keys, locked_pid, estimates_keys, workers_keys, unit_keys, fixture_keys, root_slots, parameter_named}
use Rattle.rdm_fixture_keys.specs.Keys.{must, has_only}
use Rattle.rdm_fixture.specs.Lists.{OfTable, EachIs, Lists, items_count, entries}
use Rattle.rdm_fixture.specs.Outcomes.{IsOutcome, task, severity, outcome_in, and_job_keys, rule_keys}
use Rattle.rdm_fixture_keys.specs.Values.{integer_from, flag, within, number, worker, language, uid, only_uid}
use Rattle.rdm_fixture.specs.Notices.{IsNotice, notice_parts}
use Rattle.rdm_fixture.specs.OverTime.{IsCourse, course_parts}
use Rattle.rdm_fixture.specs.OwnSlots.{AreModes, modes_part}
use Rattle.rdm_fixture.specs.Parameters.{IsField, SaysParameter, IsParameter, parameter_keys, own_pid, command_class, data_type, slots_of, shape_in, least_of, greatest_of, limit, low_in, high_in, start, can_reset}
use Rattle.rdm_fixture.specs.Starting.{measured, SaysPresent, IsStarting}
use Rattle.rdm_fixture.specs.Working.{CanWork, IsIdle}
use Rattle.rdm_fixture_keys.specs.Wrong.{Part, FirstWrong, says_one, given, FirstOther, only, needed_as, needed, free, needed_number, free_name, free_number, free_text}
use Rattle.rdm_standard_names.specs.declared.kind.NameKind.TheVariants.{Categories, Prefixes, Units}

-- ---- what lock states keep from being set

-- these are the PIDs of the parameters that are locked
abbrev pub AreLocked : Members → List ℕ → Type 0
AreLocked t pids = Lists t (codes "parameters") (λ d pid. locked_pid d ≡ Some pid) 1 64 pids

abbrev pub WrongLocked : Option Data → Fault → Type 0
WrongLocked None f = f ≡ fault (codes "parameters") wanted.Key
WrongLocked (Some (array ds)) f =
    ((within 1 64 (items_count ds) ≡ false) × (f ≡ fault (codes "parameters") (wanted.List 1 64)))
    ⊎ (((pids : List ℕ) → ¬ EachIs (λ d pid. locked_pid d ≡ Some pid) ds pids) × (f ≡ fault (codes "parameters") (wanted.Agreement agreements.Pids)))
WrongLocked (Some _) f = f ≡ fault (codes "parameters") (wanted.List 1 64)

abbrev pub locked : Part
locked = says_one AreLocked (λ t f. WrongLocked (get_member (codes "parameters") t) f)

abbrev pub locking_parts : List Part
locking_parts = only locking_keys ∷ needed_number (codes "state") 1 0xFF ∷ locked ∷ []

-- ---- parameters that the profile adds

-- the type of its data
abbrev pub type_part : Part
type_part = record {
  Right = λ t. IsSome (shape_in t);
  Wrong = λ t f. (needed (codes "data_type") (data_type (slots_of (get_member (codes "default_value") t))) wanted.DataType).Wrong t f;
}

-- the least and the greatest value
abbrev pub least_part : Shape → Part
least_part shape = free (codes "minimum_valid_value") (limit shape) (wanted.Number (least_of shape) (greatest_of shape))

abbrev pub greatest_part : Shape → ℤ → Part
greatest_part shape low = free (codes "maximum_valid_value") (integer_from low (greatest_of shape)) (wanted.Number low (greatest_of shape))

-- what data can start with
abbrev pub wanted_start : Shape → ℤ → ℤ → Wanted
wanted_start shapes.Text low high = wanted.Text
wanted_start (shapes.Bits n) low high = wanted.Slots
wanted_start (shapes.Slots n) low high = wanted.Slots
wanted_start shapes.Names low high = wanted.Slots
wanted_start shapes.Rates low high = wanted.Slots
wanted_start shapes.Scenes low high = wanted.Slots
wanted_start shapes.Block low high = wanted.Slots
wanted_start _ low high = wanted.Number low high

-- the numbers that its slots say
abbrev pub AreFields : Members → List Field → Type 0
AreFields t fs = Lists t (codes "fields") (OfTable IsField) 0 8 fs

abbrev pub fields_part : Part
fields_part =
    says_one AreFields (λ t f. ((fs : List Field) → ¬ AreFields t fs) × (f ≡ fault (codes "fields") (wanted.Agreement agreements.Fields)))

abbrev pub start_part : Shape → ℤ → ℤ → Part
start_part shape low high = needed (codes "default_value") (start shape low high) (wanted_start shape low high)

-- its keys
abbrev pub said_parts : List Part
said_parts =
    only parameter_keys ∷ needed (codes "pid") own_pid wanted.Pid ∷ needed (codes "command_class") command_class wanted.CommandClass
    ∷ type_part ∷ given shape_in least_part ∷ given shape_in (λ shape. given (low_in shape) (greatest_part shape)) ∷ fields_part
    ∷ given shape_in (λ shape. given (low_in shape) (λ low. given (high_in shape low) (start_part shape low)))
    ∷ free_name (codes "unit") Units ∷ free_name (codes "prefix") Prefixes ∷ free (codes "factory_defaults") flag wanted.Boolean
    ∷ free_text (codes "description") ∷ []

-- what has to hold of what they say
abbrev pub tested : List ℕ → (ParameterDef → Bool) → Wanted → Part
tested key holds wanted =
    says_one (λ t d. SaysParameter t d × IsTrue (holds d))
    (λ t f. (d : ParameterDef) × SaysParameter t d × (holds d ≡ false) × (f ≡ fault key wanted))

abbrev pub parameter_parts : List Part
parameter_parts =
    says_one SaysParameter (FirstWrong said_parts) ∷ tested (codes "fields") has_good_fields (wanted.Agreement agreements.AllSlots)
    ∷ tested (codes "default_value") can_start (wanted.Agreement agreements.Start)
    ∷ tested (codes "pid") follows (wanted.Agreement agreements.Standard)
    ∷ tested (codes "factory_defaults") can_reset (wanted.Agreement agreements.Reset) ∷ []

-- ---- how jobs end

-- a failure's fields; without `severity` no outcome is told
abbrev pub failure_parts : List Part
failure_parts =
    needed_as wanted.Outcome (codes "severity") severity wanted.Severity ∷ needed_number (codes "status_id") 0 0xFFFF
    ∷ free_number (codes "data_value_1") 0 0xFFFF ∷ free_number (codes "data_value_2") 0 0xFFFF ∷ []

-- what is wrong if no outcome is told, by what the keys `done` and `reading` hold
abbrev pub WrongOutcome : Option Data → Option Data → Members → Fault → Type 0
WrongOutcome (Some d) reading t f = f ≡ fault (codes "done") wanted.True
WrongOutcome None (Some d) t f = f ≡ fault (codes "reading") (wanted.Number (neg_ℤ (pos 32768)) (pos 32767))
WrongOutcome None None t f = FirstWrong failure_parts t f

abbrev pub outcome : Part
outcome = record {
  Right = λ t. IsSome (outcome_in t);
  Wrong = λ t f. (outcome_in t ≡ None) × WrongOutcome (get_member (codes "done") t) (get_member (codes "reading") t) t f;
}

-- no key of another outcome stands beside it
abbrev pub one_outcome : Part
one_outcome = record {
  Right = λ t. (o : Outcome) × (outcome_in t ≡ Some o) × IsTrue (has_only (rule_keys o) t);
  Wrong = λ t f. (o : Outcome) × (outcome_in t ≡ Some o) × ((key : List ℕ) × FirstOther (rule_keys o) t key × (f ≡ fault key wanted.OneOutcome));
}

-- the key that tells which outcome it is
abbrev pub key_of : Outcome → List ℕ
key_of Done = codes "done"
key_of (Reading value) = codes "reading"
key_of (Failed severity id v1 v2) = codes "severity"

-- the parameter can have the outcome
abbrev pub suiting : Part
suiting = record {
  Right = λ t. (x : Task) × (o : Outcome) × (must task (get_member (codes "parameter") t) ≡ Some x) × (outcome_in t ≡ Some o) × IsTrue (rules.suits x o);
  Wrong = λ t f. (x : Task) × (o : Outcome) × (must task (get_member (codes "parameter") t) ≡ Some x) × (outcome_in t ≡ Some o)
      × (rules.suits x o ≡ false) × (f ≡ fault (key_of o) wanted.Suiting);
}

-- the keys of any rule
abbrev pub all_rule_keys : List (List ℕ)
all_rule_keys =
    and_job_keys (codes "done" ∷ codes "reading" ∷ codes "severity" ∷ codes "status_id" ∷ codes "data_value_1" ∷ codes "data_value_2" ∷ [])

-- the jobs that it speaks of
abbrev pub job_parts : List Part
job_parts = needed (codes "parameter") task wanted.Task ∷ free_number (codes "value") 0 0xFF ∷ free_number (codes "job") 1 0xFFFF ∷ []

abbrev pub rule_parts : List Part
rule_parts = only all_rule_keys ∷ (job_parts ++ (outcome ∷ one_outcome ∷ suiting ∷ []))

-- ---- the root and the sub-devices

-- the keys of each device, whose personalities have at most N slots
abbrev pub unit_parts : ℕ → List Part
unit_parts slots =
    needed_number (codes "device_model_id") 0 0xFFFF ∷ free_text (codes "device_model_description")
    ∷ free_text (codes "manufacturer_label") ∷ free_text (codes "device_label") ∷ free_name (codes "product_category") Categories
    ∷ free_number (codes "software_version_id") 0 0xFFFFFFFF ∷ free_text (codes "software_version_label")
    ∷ free_number (codes "dmx_start_address") 1 512
    ∷ entries (codes "personality") (IsPersonality slots) (FirstWrong (personality_parts slots)) 1 8 ∷ []

abbrev pub root : Part
root = says_one (λ t (u : DeviceUnit). IsUnit (root_slots t) t u) (λ t f. FirstWrong (unit_parts (root_slots t)) t f)

abbrev pub sub_parts : List Part
sub_parts = only (codes "count" ∷ unit_keys) ∷ needed_number (codes "count") 0 512 ∷ unit_parts 512

abbrev pub WrongSubs : Option Data → Fault → Type 0
WrongSubs None f = ⊥
WrongSubs (Some (table s)) f = (g : Fault) × FirstWrong sub_parts s g × (f ≡ in_section sections.SubDevices g)
WrongSubs (Some _) f = f ≡ fault (codes "sub_devices") wanted.Table

abbrev pub sub_devices : Part
sub_devices =
    says_one (λ t (s : ℕ × DeviceUnit). SubDevices (root_slots t) t (get_member (codes "sub_devices") t) s.0 s.1)
    (λ t f. WrongSubs (get_member (codes "sub_devices") t) f)

-- ---- the times of slow commands

abbrev pub estimates_parts : List Part
estimates_parts =
    only estimates_keys ∷ free_number (codes "lamp_state") 0 0xFFFF ∷ free_number (codes "power_state") 0 0xFFFF
    ∷ free_number (codes "perform_selftest") 0 0xFFFF ∷ free_number (codes "sensor_value") 0 0xFFFF ∷ []

abbrev pub WrongEstimates : Option Data → Fault → Type 0
WrongEstimates None f = ⊥
WrongEstimates (Some (table t)) f = (g : Fault) × FirstWrong estimates_parts t g × (f ≡ in_section sections.Estimates g)
WrongEstimates (Some _) f = f ≡ fault (codes "estimates") wanted.Table

abbrev pub times : Part
times =
    says_one (λ t (e : Estimates). EstimatesAt (get_member (codes "estimates") t) e) (λ t f. WrongEstimates (get_member (codes "estimates") t) f)

-- ---- their workers

abbrev pub free_worker : List ℕ → Part
free_worker key = free key worker (wanted.Number (pos 0) (pos 1))

abbrev pub workers_parts : List Part
workers_parts =
    only workers_keys ∷ free_worker (codes "lamp_state") ∷ free_worker (codes "power_state") ∷ free_worker (codes "perform_selftest")
    ∷ free_worker (codes "sensor_value") ∷ []

abbrev pub WrongWorkers : Option Data → Fault → Type 0
WrongWorkers None f = ⊥
WrongWorkers (Some (table t)) f = (g : Fault) × FirstWrong workers_parts t g × (f ≡ in_section sections.Workers g)
WrongWorkers (Some _) f = f ≡ fault (codes "workers") wanted.Table

abbrev pub choice : Part
choice =
    says_one (λ t (ws : Workers). WorkersAt (get_member (codes "workers") t) ws) (λ t f. WrongWorkers (get_member (codes "workers") t) f)

-- ---- what it tells when it is muted

-- a binding UID is that of a port, and the others are truths
abbrev pub muting_parts : List Part
muting_parts =
    free (codes "binding_uid") only_uid wanted.Uid ∷ free (codes "boot_loader") flag wanted.Boolean
    ∷ free (codes "proxied_device") flag wanted.Boolean ∷ []

abbrev pub muting : Part
muting = says_one IsMuteReply (FirstWrong muting_parts)

-- ---- the whole

-- whether the message of a change takes the place of one that still waits
abbrev pub newest : Part
newest = free (codes "newest_only") flag wanted.Boolean

abbrev pub WrongLanguages : Option Data → Fault → Type 0
WrongLanguages None f = ⊥
WrongLanguages (Some (array ds)) f =
    ((within 1 8 (items_count ds) ≡ false) × (f ≡ fault (codes "languages") (wanted.List 1 8)))
    ⊎ (((xs : List ℕ) → ¬ EachIs (λ d x. language d ≡ Some x) ds xs) × (f ≡ fault (codes "languages") wanted.Language))
WrongLanguages (Some _) f = f ≡ fault (codes "languages") (wanted.List 1 8)

abbrev pub languages : Part
languages =
    says_one (λ t (xs : List ℕ). LanguagesAt (get_member (codes "languages") t) xs) (λ t f. WrongLanguages (get_member (codes "languages") t) f)

-- the entry at n (from 0) is the first whose number is that of one before it
pub record IsFirstAgain {A : Type 0} (number : A → ℕ) (xs : List A) (n : ℕ) : Type 0 where
  pub there : n < length xs
  pub before : (i j : ℕ) (d : A) → i < j → j < n → number (slice_index_or xs i d) ≢ number (slice_index_or xs j d)
  pub again : (i : ℕ) × (i < n) × ((d : A) → number (slice_index_or xs i d) ≡ number (slice_index_or xs n d))

-- the entries of a list of up to 8 differ in what this key says
abbrev pub differing : {A : Type 0} → List ℕ → List ℕ → (Members → A → Type 0) → (A → ℕ) → Part
differing {A = A} list key P number =
    says_one (λ t (xs : List A). Lists t list (OfTable P) 0 8 xs × AllPairs (λ a b. number a ≢ number b) xs)
    (λ t f. (xs : List A) × (n : ℕ) × Lists t list (OfTable P) 0 8 xs × IsFirstAgain number xs n × (f ≡ in_entry list (n + 1) (fault key wanted.Other)))

-- the parameter at n (from 0) is the first whose PID isn't above that of each one before it
pub record IsFirstBelow (ds : List ParameterDef) (n : ℕ) : Type 0 where
  pub there : n < length ds
  pub before : (i j : ℕ) (d : ParameterDef) → i < j → j < n → (slice_index_or ds i d).pid < (slice_index_or ds j d).pid
  pub below : (i : ℕ) × (i < n) × ((d : ParameterDef) → (slice_index_or ds n d).pid ≤ (slice_index_or ds i d).pid)

abbrev pub ascending : Part
ascending =
    says_one (λ t (ds : List ParameterDef). Lists t (codes "parameter") (OfTable IsParameter) 0 32 ds × AllPairs (λ a b. a.pid < b.pid) ds)
    (λ t f. (ds : List ParameterDef) × (n : ℕ) × Lists t (codes "parameter") (OfTable IsParameter) 0 32 ds × IsFirstBelow ds n
    × (f ≡ in_entry (codes "parameter") (n + 1) (fault (codes "pid") wanted.Ascending)))

-- these are the parameters and the names of choices
abbrev pub AreAdded : Members → List ParameterDef → List ChoiceName → Type 0
AreAdded t ds cs = Lists t (codes "parameter") (OfTable IsParameter) 0 32 ds × Lists t (codes "choice") (OfTable IsChoice) 0 64 cs

-- they agree
abbrev pub agreeing : Part
agreeing =
    says_one (λ t (r : List ParameterDef × List ChoiceName). AreAdded t r.0 r.1 × Agree r.0 r.1)
    (λ t f. (ds : List ParameterDef) × (cs : List ChoiceName) × AreAdded t ds cs × (¬ Agree ds cs) × (f ≡ fault (codes "choice") (wanted.Agreement agreements.Names)))

-- they don't lock more often than there can be locks
abbrev pub few_locks : Part
few_locks =
    says_one AreLocks
    (λ t f. (ls : List Locking) × Lists t (codes "lock") (OfTable IsLocking) 0 64 ls × (64 < length (all_locks ls)) × (f ≡ fault (codes "lock") (wanted.Agreement agreements.Locks)))

abbrev pub lock_parts : List Part
lock_parts = entries (codes "lock") IsLocking (FirstWrong locking_parts) 0 64 ∷ few_locks ∷ []

-- these are the parameters and the locks
abbrev pub AreLockable : Members → List ParameterDef → List Lock → Type 0
AreLockable t ds ls = Lists t (codes "parameter") (OfTable IsParameter) 0 32 ds × AreLocks t ls

-- LOCK_STATE has each state that locks something
abbrev pub stated : Part
stated =
    says_one (λ t (r : List ParameterDef × List Lock). AreLockable t r.0 r.1 × HaveStates r.0 r.1)
    (λ t f. (ds : List ParameterDef) × (ls : List Lock) × AreLockable t ds ls × (¬ HaveStates ds ls) × (f ≡ fault (codes "lock") (wanted.Agreement agreements.States)))

-- these are the PIDs of the parameters that the key names
abbrev pub AreNamed : Members → List ℕ → Type 0
AreNamed t pids = Lists t (codes "without") (λ d pid. parameter_named d ≡ Some pid) 0 36 pids

abbrev pub WrongNames : Option Data → Fault → Type 0
WrongNames None f = ⊥
WrongNames (Some (array ds)) f =
    ((within 0 36 (items_count ds) ≡ false) × (f ≡ fault (codes "without") (wanted.List 0 36)))
    ⊎ (((pids : List ℕ) → ¬ EachIs (λ d pid. parameter_named d ≡ Some pid) ds pids) × (f ≡ fault (codes "without") wanted.Parameter))
WrongNames (Some _) f = f ≡ fault (codes "without") (wanted.List 0 36)

abbrev pub names : Part
names = says_one AreNamed (λ t f. WrongNames (get_member (codes "without") t) f)

-- each of them can be left out
abbrev pub optional : Part
optional =
    says_one (λ t (pids : List ℕ). AreNamed t pids × AreOptional pids)
    (λ t f. (pids : List ℕ) × AreNamed t pids × (¬ AreOptional pids) × (f ≡ fault (codes "without") wanted.Optional))

-- and none is needed by one that stays
abbrev pub unneeded : Part
unneeded =
    says_one (λ t (pids : List ℕ). AreNamed t pids × (leave_no_need pids ≡ true))
    (λ t f. (pids : List ℕ) × AreNamed t pids × (leave_no_need pids ≡ false) × (f ≡ fault (codes "without") wanted.Unneeded))

-- these are the personalities of the root, and the modes behind them
abbrev pub AreBehind : Members → DeviceUnit → List Mode → Type 0
AreBehind t u ms = IsUnit (root_slots t) t u × AreModes t ms

-- each mode has slots of its own, or those of a personality that has
abbrev pub modes_agree : Part
modes_agree =
    says_one (λ t (r : DeviceUnit × List Mode). AreBehind t r.0 r.1 × AreGoodModes (length r.0.personalities.items) (map shape_of r.1))
    (λ t f. (u : DeviceUnit) × (ms : List Mode) × AreBehind t u ms × (¬ AreGoodModes (length u.personalities.items) (map shape_of ms))
    × (f ≡ fault (codes "mode") (wanted.Agreement agreements.OwnSlots)))

-- the parameters, the names of choices and the locks, one part after the other
abbrev pub added_parts : List Part
added_parts =
    entries (codes "parameter") IsParameter (FirstWrong parameter_parts) 0 32 ∷ ascending
    ∷ entries (codes "choice") IsChoice (FirstWrong choice_parts) 0 64 ∷ agreeing ∷ (lock_parts ++ (stated ∷ []))

abbrev pub profile_parts : List Part
profile_parts =
    free_number (codes "boot_software_version_id") 0 0xFFFFFFFF ∷ free_text (codes "boot_software_version_label") ∷ languages
    ∷ free_number (codes "presets") 0 65534 ∷ free_number (codes "more_slots") 0 512
    ∷ entries (codes "slot") IsSlot (FirstWrong slot_parts) 0 46 ∷ root ∷ sub_devices
    ∷ entries (codes "sensor") IsSensor (FirstWrong sensor_parts) 0 8
    ∷ entries (codes "self_test") IsSelfTest (FirstWrong self_test_parts) 0 8 ∷ differing (codes "self_test") (codes "number") IsSelfTest (λ a. a.number)
    ∷ entries (codes "status") IsStatus (FirstWrong status_parts) 0 8 ∷ differing (codes "status") (codes "id") IsStatus (λ a. a.id)
    ∷ names ∷ optional ∷ unneeded ∷ (added_parts ++ (times ∷ choice ∷ muting ∷ newest ∷ modes_part ∷ modes_agree ∷ []))

-- what it is switched on with
abbrev pub present_parts : List Part
present_parts = free (codes "present") measured (wanted.Number (neg_ℤ (pos 32768)) (pos 32767)) ∷ []

abbrev pub starting_parts : List Part
starting_parts =
    free_number (codes "device_hours") 0 0xFFFFFFFF ∷ free_number (codes "lamp_hours") 0 0xFFFFFFFF
    ∷ free_number (codes "lamp_strikes") 0 0xFFFFFFFF ∷ free_number (codes "device_power_cycles") 0 0xFFFFFFFF
    ∷ entries (codes "sensor") SaysPresent (FirstWrong present_parts) 0 8 ∷ entries (codes "sensor") IsCourse (FirstWrong course_parts) 0 8
    ∷ entries (codes "status_message") IsNotice (FirstWrong notice_parts) 0 16 ∷ []

-- nothing is said in vain
abbrev pub working : Part
working = says_one (λ t f. SaysFixture t f × CanWork f) (λ t e. (f : Fixture) × SaysFixture t f × IsIdle f e)

abbrev pub fixture_parts : List Part
fixture_parts =
    only fixture_keys ∷ needed (codes "uid") uid wanted.Uid ∷ says_one IsProfile (FirstWrong profile_parts)
    ∷ entries (codes "outcome") IsOutcome (FirstWrong rule_parts) 0 32 ∷ says_one IsStarting (FirstWrong starting_parts) ∷ working ∷ []
