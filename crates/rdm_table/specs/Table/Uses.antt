-- What a row says of a command, even if there is no such row or command.
use Rattle.std.specs.Prelude.{ℕ, Bool, true, false, ◌||◌, List, [], length, Option, Some, None, Result, Ok, Err, if◌then◌else◌, is_some, slice_get}
use Rattle.std.specs.Option.{option_map_or}
use Rattle.rdm_frame.specs.declared.nack.Nack.{Nack}
use Rattle.rdm_frame.specs.declared.nack.Nack.TheVariants.{FormatError, UnknownPid, UnsupportedCommandClass}
use Rattle.rdm_table.specs.declared.kind.Verb.{Verb}
use Rattle.rdm_table.specs.declared.kind.Verb.TheVariants.{Get, Set}
use Rattle.rdm_table.specs.declared.slow.Slow.{Slow}
use Rattle.rdm_table.specs.declared.slow.Slow.TheVariants.{Lamp, Power, SelfTest, Sensor}
use Rattle.rdm_table.specs.declared.way.Way.{Way}
use Rattle.rdm_table.specs.declared.way.Way.TheVariants.{AtOnce, ByJob}
use Rattle.rdm_profile.specs.declared.profile.estimates.Estimates.{Estimates}
use Rattle.rdm_profile.specs.declared.profile.workers.Workers.{Workers}
use Rattle.rdm_profile.specs.Workers.{worker_number}
use Rattle.rdm_profile.specs.declared.profile.Profile.{Profile}
use Rattle.rdm_profile.specs.declared.value.Value.{Value}
use Rattle.rdm_added.specs.Spot.{Change, Spot}
use Rattle.rdm_added.specs.Map.{Entry, update}
use Rattle.rdm_profile.specs.Forms.{Form, nothing, has_length, value_in}
use Rattle.rdm_profile.specs.Values.{byte_or_0}
use Rattle.rdm_table.specs.Table.Rows.{Row, Command, command_in}

-- whether the device has the parameter, and the parameter the command
abbrev pub access : Option Row → Bool → Verb → Result (Unit {0}) Nack
access None is_root verb = Err UnknownPid
access (Some r) false verb =
    if r.root_only then Err UnknownPid
    else (if is_some (command_in (Some r) verb) then Ok tt else Err UnsupportedCommandClass)
access (Some r) true verb = if is_some (command_in (Some r) verb) then Ok tt else Err UnsupportedCommandClass

-- the value that data of a form says, or FORMAT_ERROR
abbrev pub read_as : Form → List ℕ → Result Value Nack
read_as form bytes = if has_length form (length bytes) then Ok (value_in form bytes) else Err FormatError

-- the value that the data says
abbrev pub read : Option Command → List ℕ → Result Value Nack
read None bytes = Err FormatError
read (Some c) bytes = read_as c.form bytes

-- whether a form is that of a command that hands in no data
abbrev pub is_nothing : Form → Bool
is_nothing nothing = true
is_nothing _ = false

-- whether there is the command, and it hands in no data
abbrev pub is_bare : Option Command → Bool
is_bare None = false
is_bare (Some c) = is_nothing c.form

-- the way in which the command is answered
abbrev pub way_of : Option Command → Way
way_of None = AtOnce
way_of (Some c) = c.way

abbrev pub is_by_job : Way → Bool
is_by_job (ByJob slow) = true
is_by_job _ = false

-- the worker that has the jobs of each kind, by this choice
abbrev pub worker_for : Workers → Slow → ℕ
worker_for ws Lamp = worker_number ws.lamp
worker_for ws Power = worker_number ws.power
worker_for ws SelfTest = worker_number ws.self_test
worker_for ws Sensor = worker_number ws.sensor

-- how long they take by these estimates, in tenths of a second. Section 6.3.3.
abbrev pub estimate_for : Estimates → Slow → ℕ
estimate_for e Lamp = e.lamp
estimate_for e Power = e.power
estimate_for e SelfTest = e.self_test
estimate_for e Sensor = e.sensor

-- whether a profile has a sensor of this number, and says that it is answered at once. Section 10.7.2.
abbrev pub is_at_once : Profile → ℕ → Bool
is_at_once p number = option_map_or (λ d. d.at_once) (slice_get p.sensors.items number) false

-- whether a GET that hands in this byte is that of such a sensor
abbrev pub needs_no_job : Profile → Way → ℕ → Bool
needs_no_job p (ByJob Sensor) arg = is_at_once p arg
needs_no_job p _ arg = false

-- The way at the devices of a profile in which a command with this byte is answered, where the table has this way: a GET of a
-- sensor that is answered at once starts no job.
abbrev pub way_here : Profile → Way → Verb → ℕ → Way
way_here p way Get arg = if needs_no_job p way arg then AtOnce else way
way_here p way Set arg = way

-- the way in which a command with this value is answered at the devices of a profile
abbrev pub way_at : Profile → Option Command → Verb → Value → Way
way_at p command verb v = way_here p (way_of command) verb (byte_or_0 v)

-- whether the command is slow: a job carries it out
abbrev pub is_slow : Option Command → Bool
is_slow command = is_by_job (way_of command)

-- whether the command keeps the data that it hands in, as the value of its parameter
abbrev pub keeps : Option Command → Bool
keeps None = false
keeps (Some c) = c.keeps

-- whether the value is in range at the device
abbrev pub in_range_of : Option Command → Spot → Value → Bool
in_range_of None spot v = false
in_range_of (Some c) spot v = c.range spot v

-- whether a GET may tell the value beside those that the command may ask for
abbrev pub told_beside : Option Command → Spot → Value → Bool
told_beside None spot v = false
told_beside (Some c) spot v = c.told spot v

-- whether a GET may tell the value at the device: one in range, or one beside these
abbrev pub can_tell : Option Command → Spot → Value → Bool
can_tell command spot v = in_range_of command spot v || told_beside command spot v

-- what the command makes of the entries of the device
abbrev pub change : Option Command → Change
change None spot v e = e.bytes
change (Some c) spot v e = c.change spot v e

-- what the command makes of the entries of the parameters that the maker adds
abbrev pub added_change : Option Command → Change
added_change None spot v e = e.bytes
added_change (Some c) spot v e = c.added_change spot v e

-- the values of a device after a command that is carried out there
abbrev pub written : Option Command → Value → Spot → List Entry
written command value spot = update (change command spot value) spot.entries

-- the values of the parameters that the maker adds, after it
abbrev pub added_written : Option Command → Value → Spot → List Entry
added_written command value spot = update (added_change command spot value) spot.added

-- what a SET by this row makes of these entries of a device
abbrev pub after_store : Option Row → Spot → Value → List Entry → List Entry
after_store row spot v entries = update (change (command_in row Set) spot v) entries

-- the data of the reply
abbrev pub reply : Option Command → Spot → Value → List ℕ
reply None spot v = []
reply (Some c) spot v = c.reply spot v
