-- Laws of the table, for every value, command and device.
use Rattle.std.specs.Prelude.{◌≡◌, ◌≢◌, ◌↔◌, ℕ, ℤ, suc, ◌^◌, ◌<◌, ◌≤◌, ◌==◌, false, List, [], ◌∷◌, ◌++◌, length, Option, Some, None, Ok, Err, IsTrue, All, Contains, Bool, true, map, filter, slice_index_or, if◌then◌else◌}
use Rattle.std.specs.List.{list_any}
use Rattle.std.specs.List.Sorted.{IsStrictlyIncreasing}
use Rattle.rdm_frame.specs.declared.nack.Nack.{Nack}
use Rattle.rdm_frame.specs.declared.nack.Nack.TheVariants.{UnknownPid}
use Rattle.rdm_frame.specs.declared.status.Severity.{Severity}
use Rattle.rdm_table.specs.declared.kind.Verb.{Verb}
use Rattle.rdm_table.specs.declared.kind.Verb.TheVariants.{Set}
use Rattle.rdm_commands.specs.declared.verdict.Verdict.TheVariants.{Reply, Refuse}
use Rattle.rdm_profile.specs.declared.value.Value.{Value}
use Rattle.rdm_profile.specs.declared.value.Value.TheVariants.{Byte, Word, Long, Preset, Label}
use Rattle.rdm_commands.specs.declared.changed.Changed.TheVariants as told
use Rattle.rdm_commands.specs.declared.panel.Change.{Change}
use Rattle.rdm_commands.specs.declared.jobs.outcome.Outcome.{Outcome}
use Rattle.rdm_commands.specs.declared.jobs.outcome.Outcome.TheVariants.{Done, Reading, Failed}
use Rattle.rdm_commands.specs.declared.jobs.work.Work.{Work}
use Rattle.rdm_commands.specs.Commands.Changed.{change_of}
use Rattle.rdm_table.specs.Table.Rows.{command_of, Command, table, row_of, row_at, added_row, is_required, supported_pids}
use Rattle.rdm_commands.specs.Commands.Commands.{command_at, is_block, is_lockable, answer_to_set, after_set}
use Rattle.rdm_commands.specs.Commands.Panel.{changed_pid, after_change}
use Rattle.rdm_commands.specs.Commands.Placing.{place_refusal, after_place}
use Rattle.rdm_commands.specs.Jobs.Commit.{after_commit}
use Rattle.rdm_commands.specs.Jobs.Outcome.{fits}
use Rattle.rdm_profile.specs.Forms.{has_form}
use Rattle.rdm_added.specs.Locking.{is_locked, is_set_locked}
use Rattle.rdm_profile.specs.Locks.{quick_pids}
use Rattle.rdm_added.specs.Map.{has_key, lookup}
use Rattle.rdm_profile.specs.declared.profile.own.ParameterDef.{ParameterDef}
use Rattle.rdm_profile.specs.OwnParameters.{is_order}
use Rattle.rdm_profile.specs.declared.profile.Profile.{Profile}
use Rattle.rdm_added.specs.Parameters.{Parameters, parameters_of}
use Rattle.rdm_profile.specs.Profiles.{IsGoodProfile}
use Rattle.rdm_profile.specs.Standards.{follows}
use Rattle.rdm_device.specs.Columns.Replies.{factory_pids, reset_pids}
use Rattle.rdm_table.specs.Table.Uses.{access, read, is_slow, keeps}
use Rattle.rdm_profile.specs.Values.{bytes_of}

-- the numbers of a value that a command can hand in fit their slots
abbrev pub FitsSlots : Value → Type 0
FitsSlots (Byte n) = n < 2 ^ 8
FitsSlots (Word n) = n < 2 ^ 16
FitsSlots (Long n) = n < 2 ^ 32
FitsSlots (Preset mode level) = (mode < 2 ^ 16) × (level < 2 ^ 8)
FitsSlots (Label text) = length text ≤ 32
FitsSlots _ = Unit {0}

-- a value has the form that the command takes
abbrev pub HasFormOf : Option Command → Value → Type 0
HasFormOf None v = ⊥
HasFormOf (Some c) v = IsTrue (has_form c.form v)

-- What is written of a value of a command's form is read back as that value.
abbrev pub ReadsBack : Type 0
ReadsBack =
    (pid : ℕ) (verb : Verb) (v : Value)
    → HasFormOf (command_of pid verb) v → FitsSlots v → read (command_of pid verb) (bytes_of v) ≡ Ok v

-- Devices of a profile that adds no parameters and leaves none out have the table.
abbrev pub TheTableAlone : Type 0
TheTableAlone = (p : Profile) (pid : ℕ) → p.particulars.own ≡ [] → p.particulars.without.items ≡ [] → row_at p pid ≡ row_of pid

-- SUPPORTED_PARAMETERS lists PIDs in ascending order, and so none twice, at the root and at a sub-device. Section 10.4.1.
abbrev pub SupportedAscend : Type 0
SupportedAscend = (p : Profile) (is_root : Bool) → IsGoodProfile p → IsStrictlyIncreasing (supported_pids p is_root)

-- It lists exactly what devices that can be made have beside what they must: each PID of which a GET, or a SET, isn't refused as
-- UNKNOWN_PID, and that isn't required. Section 10.4.1.
abbrev pub SupportedExact : Type 0
SupportedExact =
    (p : Profile) (is_root : Bool) (pid : ℕ) (verb : Verb) → IsGoodProfile p
    → Contains (supported_pids p is_root) pid ↔ ((access (row_at p pid) is_root verb ≢ Err UnknownPid) × (is_required pid ≡ false))

-- The PIDs of the keys that a SET of a parameter may write by its row: its own, but for FACTORY_DEFAULTS, which sets ten
-- parameters back and those of the maker's own that say so, and RECORD_SENSORS, which writes the sensors' values.
abbrev pub keys_of_row : Profile → ℕ → List ℕ
keys_of_row profile pid = if pid == 0x0090 then factory_pids ++ reset_pids profile.particulars.own else (if pid == 0x0202 then 0x0201 ∷ [] else pid ∷ [])

-- The PIDs of the keys that a SET of a parameter may write: those of its row, but for DMX_BLOCK_ADDRESS, which writes start addresses.
abbrev pub keys_written : Profile → ℕ → List ℕ
keys_written profile pid = if is_block pid then 0x00F0 ∷ [] else keys_of_row profile pid

-- the values at this key are the same at the root, also of the parameters that the maker adds, and at every sub-device, of
-- which the first is number 1
pub record SameAt (pid index : ℕ) (old new : Parameters) : Type 0 where
  pub root : lookup new.root pid index ≡ lookup old.root pid index
  pub added : lookup new.added pid index ≡ lookup old.added pid index
  pub subs : (k : ℕ) → lookup (slice_index_or new.subs k []) pid index ≡ lookup (slice_index_or old.subs k []) pid index

-- A SET changes no value but at the keys of its parameter, at any device.
abbrev pub ChangesItsKeys : Type 0
ChangesItsKeys =
    (p : Parameters) (sub pid : ℕ) (bytes : List ℕ) (key index : ℕ)
    → list_any (λ k. k == key) (keys_written p.profile pid) ≡ false → SameAt key index p (after_set p sub pid bytes)

-- The profile is the same, there are as many sub-devices, and the devices that a SET doesn't address keep all their
-- values.
pub record IsSameBut (sub : ℕ) (old new : Parameters) : Type 0 where
  pub profile : new.profile ≡ old.profile
  pub count : length new.subs ≡ length old.subs
  pub root : sub ≢ 0 → new.root ≡ old.root
  pub added : sub ≢ 0 → new.added ≡ old.added
  pub subs : (k : ℕ) → sub ≢ suc k → sub ≢ 0xFFFF → slice_index_or new.subs k [] ≡ slice_index_or old.subs k []

-- The devices whose values a SET may change, as a command addresses them: those that it addresses, but for DMX_BLOCK_ADDRESS, which
-- is for the root, every sub-device and not the root.
abbrev pub reached : ℕ → ℕ → ℕ
reached sub pid = if is_block pid then 0xFFFF else sub

-- A SET changes nothing but the values of these devices.
abbrev pub LeavesTheRest : Type 0
LeavesTheRest = (p : Parameters) (sub pid : ℕ) (bytes : List ℕ) → IsSameBut (reached sub pid) p (after_set p sub pid bytes)

-- whether the orders of this PID are counted
abbrev pub is_counted : Parameters → ℕ → Bool
is_counted p pid = list_any (has_key pid 1) p.added

-- An order of a good profile that the root accepts leaves other values than before, also if its data are those of the last: so each is
-- told as a change.
abbrev pub OrdersAreTold : Type 0
OrdersAreTold =
    (p : Parameters) (d : ParameterDef) (bytes reply : List ℕ)
    → row_at p.profile d.pid ≡ Some (added_row d) → follows d ≡ true → is_order d.rights ≡ true → is_counted p d.pid ≡ true
    → answer_to_set p 0 d.pid bytes ≡ Reply reply → after_set p 0 d.pid bytes ≢ p

-- Each order of a profile is counted when the devices are made.
abbrev pub OrdersAreCounted : Type 0
OrdersAreCounted = (p : Profile) → All (λ d. is_order d.rights ≡ true → is_counted (parameters_of p) d.pid ≡ true) p.particulars.own

-- No SET ends that, of any parameter and device.
abbrev pub CountsStay : Type 0
CountsStay = (p : Parameters) (sub pid order : ℕ) (bytes : List ℕ) → is_counted (after_set p sub pid bytes) order ≡ is_counted p order

-- Nothing else that becomes of the values ends it: neither data that are placed, nor the end of a job, nor a change at the menu.
abbrev pub CountsStayPlaced : Type 0
CountsStayPlaced = (p : Parameters) (sub pid order : ℕ) (bytes : List ℕ) → is_counted (after_place p sub pid bytes) order ≡ is_counted p order

abbrev pub CountsStayCommitted : Type 0
CountsStayCommitted = (p : Parameters) (w : Work) (outcome : Outcome) (order : ℕ) → is_counted (after_commit p w outcome) order ≡ is_counted p order

abbrev pub CountsStayChanged : Type 0
CountsStayChanged = (p : Parameters) (change : Change) (order : ℕ) → is_counted (after_change p change) order ≡ is_counted p order

-- A SET of what the lock state locks is refused, unless a job carries it out, and changes nothing. So is one that would write what it
-- locks: RECORD_SENSORS the values of sensors, and DMX_BLOCK_ADDRESS start addresses. E1.37-1, LOCK_STATE.
abbrev pub LockRefuses : Type 0
LockRefuses =
    (p : Parameters) (sub pid : ℕ) (bytes : List ℕ)
    → is_set_locked p.profile.particulars.locks p.added pid ≡ true → is_slow (command_at p pid Set) ≡ false
    → (nack : Nack) × (answer_to_set p sub pid bytes ≡ Refuse nack)

abbrev pub LockKeeps : Type 0
LockKeeps =
    (p : Parameters) (sub pid : ℕ) (bytes : List ℕ)
    → is_set_locked p.profile.particulars.locks p.added pid ≡ true → after_set p sub pid bytes ≡ p

-- The values of each parameter that the lock state locks stay, at every device, whichever parameter is set, also by FACTORY_DEFAULTS.
abbrev pub LockedValuesStay : Type 0
LockedValuesStay =
    (p : Parameters) (sub pid : ℕ) (bytes : List ℕ) (key index : ℕ)
    → is_locked p.profile.particulars.locks p.added key ≡ true → SameAt key index p (after_set p sub pid bytes)

-- A profile can lock these of the table: the parameters of its rows that have a SET which no job carries out.
abbrev pub LocksKnowTheTable : Type 0
LocksKnowTheTable = map (λ r. r.pid) (filter (λ r. is_lockable r.set) table) ≡ quick_pids

-- A SET that tells of one value changes no value of another parameter, at any device.
abbrev pub ChangesWhatItTells : Type 0
ChangesWhatItTells =
    (p : Parameters) (sub pid sub_told pid_told : ℕ) (bytes : List ℕ) (key index : ℕ)
    → change_of sub pid ≡ told.Value sub_told pid_told → key ≢ pid_told → SameAt key index p (after_set p sub pid bytes)

-- A SET that tells of one value tells of one device, and changes no value of another.
abbrev pub LeavesWhatItDoesNotTell : Type 0
LeavesWhatItDoesNotTell =
    (p : Parameters) (sub pid sub_told pid_told : ℕ) (bytes : List ℕ)
    → change_of sub pid ≡ told.Value sub_told pid_told → (sub_told ≢ 0xFFFF) × IsSameBut sub_told p (after_set p sub pid bytes)

-- The end of a job changes no value but at the key of its own parameter, at any device, if the outcome is one that such
-- a job can have.
abbrev pub CommitChangesItsKey : Type 0
CommitChangesItsKey =
    (p : Parameters) (w : Work) (outcome : Outcome) (key index : ℕ)
    → fits w outcome ≡ true → key ≢ w.pid → SameAt key index p (after_commit p w outcome)

-- The PIDs of the keys that the end of a job may write, whichever outcome is handed in: those that the SET may write, that
-- of the sensors' values, or none.
abbrev pub keys_committed : Profile → Work → Outcome → List ℕ
keys_committed profile w Done = keys_of_row profile w.pid
keys_committed profile w (Reading v) = 0x0201 ∷ []
keys_committed profile w (Failed severity id v1 v2) = []

-- The end of a job changes no value but at these keys, whichever outcome is handed in.
abbrev pub CommitChangesItsKeys : Type 0
CommitChangesItsKeys =
    (p : Parameters) (w : Work) (outcome : Outcome) (key index : ℕ)
    → list_any (λ k. k == key) (keys_committed p.profile w outcome) ≡ false → SameAt key index p (after_commit p w outcome)

-- A reading changes no value of another sensor.
abbrev pub ReadingChangesItsSensor : Type 0
ReadingChangesItsSensor =
    (p : Parameters) (w : Work) (v : ℤ) (key index : ℕ) → index ≢ w.arg → SameAt key index p (after_commit p w (Reading v))

-- the device whose values the end of a job may change: that of the SET, and the root, which alone has sensors
abbrev pub device_committed : Work → Outcome → ℕ
device_committed w Done = w.sub
device_committed w _ = 0

-- The end of a job changes nothing but the values of that device; a job that failed changes nothing.
abbrev pub CommitLeavesTheRest : Type 0
CommitLeavesTheRest =
    (p : Parameters) (w : Work) (outcome : Outcome) → IsSameBut (device_committed w outcome) p (after_commit p w outcome)

abbrev pub FailedChangesNothing : Type 0
FailedChangesNothing =
    (p : Parameters) (w : Work) (severity : Severity) (id v1 v2 : ℕ) → after_commit p w (Failed severity id v1 v2) ≡ p

-- A change at the fixture's own menu changes no value but at the key of its parameter, and nothing but the root's values.
abbrev pub PanelChangesItsKey : Type 0
PanelChangesItsKey =
    (p : Parameters) (change : Change) (key index : ℕ) → key ≢ changed_pid change → SameAt key index p (after_change p change)

abbrev pub PanelLeavesTheRest : Type 0
PanelLeavesTheRest = (p : Parameters) (change : Change) → IsSameBut 0 p (after_change p change)

-- Where a SET that keeps its data is carried out at one device, and answered at once, the same data can be placed there,
-- and leave the same values.
abbrev pub PlacesAsSet : Type 0
PlacesAsSet =
    (p : Parameters) (sub pid : ℕ) (bytes reply : List ℕ)
    → sub ≢ 0xFFFF → keeps (command_of pid Set) ≡ true → answer_to_set p sub pid bytes ≡ Reply reply
    → (place_refusal p sub pid bytes ≡ None) × (after_place p sub pid bytes ≡ after_set p sub pid bytes)
