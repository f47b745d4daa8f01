-- Laws of slow commands and of what is fetched, for all devices and commands.
use Rattle.std.specs.Prelude.{◌≡◌, ◌≢◌, ℕ, true, false, ◌==◌, if◌then◌else◌, List, [], ◌∷◌, length, Option}
use Rattle.rdm_table.specs.declared.kind.Verb.{Verb}
use Rattle.rdm_table.specs.declared.kind.Verb.TheVariants.{Get, Set}
use Rattle.rdm_commands.specs.declared.jobs.ask.Ask.{Ask}
use Rattle.rdm_commands.specs.declared.jobs.ask.Ask.TheVariants as asks
use Rattle.rdm_commands.specs.declared.jobs.outcome.Outcome.{Outcome}
use Rattle.rdm_commands.specs.declared.jobs.work.Work.{Work}
use Rattle.rdm_commands.specs.declared.panel.Change.{Change}
use Rattle.rdm_commands.specs.declared.verdict.Verdict.TheVariants.{Reply, Start, Queue, Status, Clear}
use Rattle.rdm_profile.specs.declared.profile.Profile.{Profile}
use Rattle.rdm_profile.specs.declared.value.Value.{Value}
use Rattle.rdm_profile.specs.declared.value.Value.TheVariants.{Byte}
use Rattle.rdm_device.specs.Columns.Replies.{sensor_measured}
use Rattle.rdm_profile.specs.Estimates.{usual}
use Rattle.rdm_profile.specs.Workers.{usual_workers}
use Rattle.rdm_table.specs.Table.Rows.{command_of, Command, is_left_out}
use Rattle.rdm_commands.specs.Commands.Commands.{accepted, got, answer_to_set, after_set, root_spot}
use Rattle.rdm_commands.specs.Commands.Panel.{after_change}
use Rattle.rdm_commands.specs.Commands.Placing.{after_place}
use Rattle.rdm_added.specs.Parameters.{Parameters}
use Rattle.rdm_commands.specs.Jobs.Commit.{after_commit}
use Rattle.rdm_commands.specs.Jobs.Work.{IsAccepted, estimate_of, worker_at}
use Rattle.rdm_table.specs.Table.Uses.{is_slow, is_at_once, way_of, way_at}

-- They have one profile and as many sub-devices, whatever their values are.
pub record SameDevices (p q : Parameters) : Type 0 where
  pub profile : q.profile ≡ p.profile
  pub subs : length q.subs ≡ length p.subs

-- What is accepted as a slow command is accepted whatever the values are.
abbrev pub StaysAccepted : Type 0
StaysAccepted =
    (p q : Parameters) (sub pid : ℕ) (verb : Verb) (bytes : List ℕ)
    → SameDevices p q → is_slow (command_of pid verb) ≡ true → accepted q sub pid verb bytes ≡ accepted p sub pid verb bytes

-- No SET, end of a job or change at the menu changes the profile, or how many sub-devices there are.
abbrev pub SetKeepsDevices : Type 0
SetKeepsDevices = (p : Parameters) (sub pid : ℕ) (bytes : List ℕ) → SameDevices p (after_set p sub pid bytes)

abbrev pub CommitKeepsDevices : Type 0
CommitKeepsDevices = (p : Parameters) (w : Work) (outcome : Outcome) → SameDevices p (after_commit p w outcome)

abbrev pub PanelKeepsDevices : Type 0
PanelKeepsDevices = (p : Parameters) (change : Change) → SameDevices p (after_change p change)

abbrev pub PlaceKeepsDevices : Type 0
PlaceKeepsDevices = (p : Parameters) (sub pid : ℕ) (bytes : List ℕ) → SameDevices p (after_place p sub pid bytes)

-- A work is that of this command, a slow one that the devices accept.
pub record IsWorkOf (p : Parameters) (sub pid : ℕ) (verb : Verb) (w : Work) : Type 0 where
  pub same_sub : w.sub ≡ sub
  pub same_pid : w.pid ≡ pid
  pub same_verb : w.verb ≡ verb
  pub accepted : IsAccepted p w

-- The work that a GET or a SET starts is that of the command.
abbrev pub GetStartsItsWork : Type 0
GetStartsItsWork = (p : Parameters) (sub pid : ℕ) (bytes : List ℕ) (w : Work) → got p sub pid bytes ≡ Start w → IsWorkOf p sub pid Get w

abbrev pub SetStartsItsWork : Type 0
SetStartsItsWork =
    (p : Parameters) (sub pid : ℕ) (bytes : List ℕ) (w : Work) → answer_to_set p sub pid bytes ≡ Start w → IsWorkOf p sub pid Set w

-- how long the commands of the table take where a profile says nothing else: LAMP_STATE, POWER_STATE, PERFORM_SELFTEST and
-- SENSOR_VALUE
abbrev pub table_estimate : ℕ → ℕ
table_estimate pid = if pid == 0x0403 then 50 else if pid == 0x1010 then 20 else if pid == 0x1020 then 100 else 5

-- Devices with the usual estimates take the times of the table.
abbrev pub UsualTakesTheTablesTime : Type 0
UsualTakesTheTablesTime =
    (p : Profile) (w : Work) → p.particulars.estimates ≡ usual → is_slow (command_of w.pid w.verb) ≡ true → estimate_of p w ≡ table_estimate w.pid

-- the usual worker of each: 0 of LAMP_STATE and POWER_STATE, and 1 of PERFORM_SELFTEST and SENSOR_VALUE
abbrev pub table_worker : ℕ → ℕ
table_worker pid = if pid == 0x0403 then 0 else if pid == 0x1010 then 0 else 1

-- Devices with the usual choice of workers have those.
abbrev pub UsualHasTheTablesWorkers : Type 0
UsualHasTheTablesWorkers =
    (p : Profile) (w : Work) → p.workers ≡ usual_workers → is_slow (command_of w.pid w.verb) ≡ true → worker_at p.workers w ≡ table_worker w.pid

-- Where no sensor is answered at once, each command is answered in the way of its row.
abbrev pub UsualIsAnsweredByTheTable : Type 0
UsualIsAnsweredByTheTable =
    (p : Profile) (command : Option Command) (verb : Verb) (v : Value)
    → ((number : ℕ) → is_at_once p number ≡ false) → way_at p command verb v ≡ way_of command

-- A sensor that is answered at once is so, with what it shows. Section 10.7.2.
abbrev pub SensorIsAnsweredAtOnce : Type 0
SensorIsAnsweredAtOnce =
    (p : Parameters) (number : ℕ)
    → is_at_once p.profile number ≡ true → is_left_out p.profile 0x0201 ≡ false
    → got p 0 0x0201 (number ∷ []) ≡ Reply (sensor_measured (root_spot p) (Byte number))

-- QUEUED_MESSAGE alone asks for what waits, and never for nothing. Section 10.3.1.
abbrev pub GetQueues : Type 0
GetQueues =
    (p : Parameters) (sub pid : ℕ) (bytes : List ℕ) (ask : Ask)
    → got p sub pid bytes ≡ Queue ask → (pid ≡ 0x0020) × (ask ≢ asks.None)

-- STATUS_MESSAGES alone asks for status entries. Section 10.3.2.
abbrev pub GetStatuses : Type 0
GetStatuses = (p : Parameters) (sub pid : ℕ) (bytes : List ℕ) (ask : Ask) → got p sub pid bytes ≡ Status ask → pid ≡ 0x0030

-- A SET asks for neither.
abbrev pub SetFetchesNothing : Type 0
SetFetchesNothing =
    (p : Parameters) (sub pid : ℕ) (bytes : List ℕ) (ask : Ask)
    → (answer_to_set p sub pid bytes ≢ Queue ask) × (answer_to_set p sub pid bytes ≢ Status ask)

-- A SET of CLEAR_STATUS_ID alone clears status entries. Section 10.3.4.
abbrev pub SetClears : Type 0
SetClears = (p : Parameters) (sub pid : ℕ) (bytes : List ℕ) → answer_to_set p sub pid bytes ≡ Clear → pid ≡ 0x0032

abbrev pub GetClearsNothing : Type 0
GetClearsNothing = (p : Parameters) (sub pid : ℕ) (bytes : List ℕ) → got p sub pid bytes ≢ Clear
