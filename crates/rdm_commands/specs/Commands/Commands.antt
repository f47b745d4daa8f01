-- What GET and SET commands answer, and which values they leave. E1.20 sections 6.3, 9 and 10.
use Rattle.std.specs.Prelude.{ℕ, ◌-◌, Bool, true, false, ◌==◌, ◌&&◌, ◌||◌, not, List, [], ◌∷◌, map, Option, Some, None, Result, Ok, Err, is_ok, is_some, slice_get, slice_index_or, slice_set, option_to_list, find, if◌then◌else◌}
use Rattle.std.specs.List.{list_all}
use Rattle.std.specs.Option.{option_map_or}
use Rattle.rdm_frame.specs.declared.nack.Nack.{Nack}
use Rattle.rdm_frame.specs.declared.nack.Nack.TheVariants.{FormatError, DataOutOfRange, WriteProtect, SubDeviceOutOfRange}
use Rattle.rdm_table.specs.declared.kind.Kind.{Kind}
use Rattle.rdm_table.specs.declared.kind.Verb.{Verb}
use Rattle.rdm_table.specs.declared.kind.Verb.TheVariants.{Get, Set}
use Rattle.rdm_profile.specs.declared.profile.Profile.{Profile}
use Rattle.rdm_profile.specs.declared.profile.own.ParameterDef.{ParameterDef}
use Rattle.rdm_added.specs.Added.{is_pid_of}
use Rattle.rdm_added.specs.Scenes.{protects_by}
use Rattle.rdm_device.specs.Device.Blocks.{block_slots, fits, started_from}
use Rattle.rdm_added.specs.Locking.{is_set_locked, is_no_pin}
use Rattle.rdm_profile.specs.declared.value.Value.{Value}
use Rattle.rdm_commands.specs.declared.verdict.Verdict.{Verdict}
use Rattle.rdm_commands.specs.declared.verdict.Verdict.TheVariants.{Reply, Start, Queue, Status, Clear, Refuse}
use Rattle.rdm_commands.specs.declared.jobs.ask.Ask.{Ask}
use Rattle.rdm_table.specs.declared.way.Way.{Way}
use Rattle.rdm_table.specs.declared.way.Way.TheVariants.{AtOnce, ByJob, FromQueue, FromStatus, Clears}
use Rattle.rdm_commands.specs.declared.jobs.work.Work.{Work}
use Rattle.rdm_table.specs.Table.Kinds.{pid_of}
use Rattle.rdm_added.specs.Map.{Entry}
use Rattle.rdm_added.specs.Parameters.{Parameters}
use Rattle.rdm_added.specs.Spot.{Spot, sub_device}
use Rattle.rdm_table.specs.Table.Rows.{Command, Row, row_of, row_at, is_left_out, command_in, command_of}
use Rattle.rdm_table.specs.Table.Uses.{access, read, way_at, is_by_job, is_slow, in_range_of, written, added_written, reply}
use Rattle.rdm_commands.specs.Jobs.Asks.{ask_of}
use Rattle.rdm_profile.specs.Values.{byte_or_0, word_or_0}

-- the root
abbrev pub root_spot : Parameters → Spot
root_spot p = record { profile = p.profile; unit = p.profile.root; is_root = true; entries = p.root; added = p.added }

-- a sub-device that keeps these values
abbrev pub sub_spot : Parameters → List Entry → Spot
sub_spot p entries = sub_device p.profile entries

-- whether a command is a SET of every sub-device. Section 9.
abbrev pub is_all_call : ℕ → Verb → Bool
is_all_call sub Get = false
is_all_call sub Set = sub == 0xFFFF

-- the devices that a command addresses: 0 is the root, and the sub-devices are numbered from 1
abbrev pub addressed : Parameters → ℕ → Verb → List Spot
addressed p sub verb =
    if sub == 0 then root_spot p ∷ []
    else (if is_all_call sub verb then map (sub_spot p) p.subs else map (sub_spot p) (option_to_list (slice_get p.subs (sub - 1))))

-- what these devices have for a PID: by the table without what their profile leaves out, or by what it adds
abbrev pub command_at : Parameters → ℕ → Verb → Option Command
command_at p pid verb = command_in (row_at p.profile pid) verb

-- steps of which the first that fails decides
infixl 10 ◌>>=◌
abbrev pub ◌>>=◌ : {A B : Type 0} → Result A Nack → (A → Result B Nack) → Result B Nack
(Ok x) >>= f = f x
(Err nack) >>= f = Err nack

-- it is refused unless this holds
abbrev pub check : Bool → Nack → Result (Unit {0}) Nack
check holds nack = if holds then Ok tt else Err nack

-- whether there is a device
abbrev pub is_some_device : List Spot → Bool
is_some_device spots = is_some (slice_get spots 0)

-- Reply rule 6: there is a device that the command addresses. Rules 7 and 8: the device has the parameter, and the
-- parameter the command.
abbrev pub known : Parameters → ℕ → Option Row → Verb → Result (Unit {0}) Nack
known p sub row verb = do
  exists ← check (is_some_device (addressed p sub verb)) SubDeviceOutOfRange
  access row (sub == 0) verb

-- whether data of a SET are of a scene of PRESET_STATUS that can only be read. E1.37-1.
abbrev pub is_read_only : List ParameterDef → ℕ → List ℕ → Bool
is_read_only ds pid bytes = (pid == 0x1042) && option_map_or (λ d. protects_by d.shape d bytes) (find (is_pid_of pid) ds) false

-- whether there is the command, and no job carries it out
abbrev pub is_lockable : Option Command → Bool
is_lockable None = false
is_lockable (Some c) = not (is_by_job c.way)

-- Whether what a SET would write is protected: it can only be read, or the lock state locks it, as its own parameter or as the one whose
-- values it writes. It locks no SET that a job carries out, since a job that was accepted is one that is accepted until it ends.
abbrev pub is_protected : Profile → List Entry → ℕ → Option Command → List ℕ → Bool
is_protected profile added pid command bytes =
    is_read_only profile.particulars.own pid bytes || (is_set_locked profile.particulars.locks added pid && is_lockable command)

-- Behind rule 8: what is protected is refused as WRITE_PROTECT, and a new PIN that is none as FORMAT_ERROR. Table A-17 and E1.37-1,
-- LOCK_PIN.
abbrev pub open_to : Bool → Bool → Result (Unit {0}) Nack
open_to protected no_pin = do
  free ← check (not protected) WriteProtect
  check (not no_pin) FormatError

-- the same of the data of a command; a GET is never refused so
abbrev pub unprotected : Profile → List Entry → ℕ → Option Command → Verb → List ℕ → Result (Unit {0}) Nack
unprotected profile added pid command Get bytes = Ok tt
unprotected profile added pid command Set bytes = open_to (is_protected profile added pid command bytes) (is_no_pin pid bytes)

-- Rule 10: the value is in range at each device that is addressed. Rule 11: it starts no jobs at all sub-devices at once.
abbrev pub suits : Parameters → ℕ → Option Command → Verb → Value → Result (Unit {0}) Nack
suits p sub command verb value = do
  in_range ← check (list_all (λ spot. in_range_of command spot value) (addressed p sub verb)) DataOutOfRange
  check (not (is_all_call sub verb && is_slow command)) SubDeviceOutOfRange

-- Rules 9 and 10 at one device: the value that the data stand for. Rule 9 is that they have the length of the command.
abbrev pub read_data_at : Option Command → Spot → List ℕ → Result Value Nack
read_data_at command spot bytes = do
  value ← read command bytes
  in_range ← check (in_range_of command spot value) DataOutOfRange
  Ok value

-- the value, if the devices that are addressed take it
abbrev pub taken : Parameters → ℕ → Option Command → Verb → Value → Result Value Nack
taken p sub command verb value = do
  fits ← suits p sub command verb value
  Ok value

-- Rules 9 to 11: the value that the data stand for, at all devices that are addressed.
abbrev pub read_data : Parameters → ℕ → Option Command → Verb → List ℕ → Result Value Nack
read_data p sub command verb bytes = do
  value ← read command bytes
  taken p sub command verb value

-- Rules 6 to 11 by its row: the value that the data of a command stand for, or the first reason to refuse it; behind rule 8 that it is
-- protected.
unfoldable pub accepted : Parameters → ℕ → ℕ → Verb → List ℕ → Result Value Nack
accepted p sub pid verb bytes = do
  found ← known p sub (row_at p.profile pid) verb
  free ← unprotected p.profile p.added pid (command_at p pid verb) verb bytes
  read_data p sub (command_at p pid verb) verb bytes

-- Whether a value is in the range of a command at each device that it addresses; it isn't if there is none, or
-- if these have no such parameter or command.
unfoldable pub in_range : Parameters → ℕ → Kind → Verb → Value → Bool
in_range p sub kind verb value =
    not (is_left_out p.profile (pid_of kind))
    && (is_some_device (addressed p sub verb) && is_ok (access (row_of (pid_of kind)) (sub == 0) verb)
    && list_all (λ spot. in_range_of (command_of (pid_of kind) verb) spot value) (addressed p sub verb))

-- the reply of a device; all that are addressed give the same
abbrev pub reply_at : Option Command → List Spot → Value → List ℕ
reply_at command spots value = option_map_or (λ spot. reply command spot value) (slice_get spots 0) []

-- the job that a slow command starts
abbrev pub work : ℕ → ℕ → Verb → Value → Work
work sub pid verb value = record { sub = sub; pid = pid; verb = verb; arg = byte_or_0 value }

-- what is answered in this way: these bytes at once, this job, what a controller asks for, or that entries are cleared
abbrev pub answered : Way → List ℕ → Work → Ask → Verdict
answered AtOnce bytes job ask = Reply bytes
answered (ByJob slow) bytes job ask = Start job
answered FromQueue bytes job ask = Queue ask
answered FromStatus bytes job ask = Status ask
answered Clears bytes job ask = Clear

-- what a command answers that leaves these values
abbrev pub verdict : Parameters → ℕ → ℕ → Option Command → Verb → Result Value Nack → Verdict
verdict p sub pid command verb (Err nack) = Refuse nack
verdict p sub pid command verb (Ok value) =
    answered (way_at p.profile command verb value) (reply_at command (addressed p sub verb) value) (work sub pid verb value) (ask_of (byte_or_0 value))

-- the values after a SET that is carried out at the devices that it addresses
abbrev pub carried_out : Parameters → ℕ → Option Command → Value → Parameters
carried_out p sub command value =
    if sub == 0 then record p { root = written command value (root_spot p); added = added_written command value (root_spot p) }
    else (if is_all_call sub Set then record p { subs = map (λ entries. written command value (sub_spot p entries)) p.subs }
    else record p { subs = slice_set p.subs (sub - 1) (written command value (sub_spot p (slice_index_or p.subs (sub - 1) []))) })

-- the values after a SET that is accepted with this value, or refused
abbrev pub after_accepted : Parameters → ℕ → Option Command → Result Value Nack → Parameters
after_accepted p sub command (Err nack) = p
after_accepted p sub command (Ok value) = if is_slow command then p else carried_out p sub command value

-- What a GET answers by its row.
unfoldable pub got_by_row : Parameters → ℕ → ℕ → List ℕ → Verdict
got_by_row p sub pid bytes = verdict p sub pid (command_at p pid Get) Get (accepted p sub pid Get bytes)

-- The values after a SET by its row; a refused one and one that starts a job leave them.
unfoldable pub after_by_row : Parameters → ℕ → ℕ → List ℕ → Parameters
after_by_row p sub pid bytes = after_accepted p sub (command_at p pid Set) (accepted p sub pid Set bytes)

-- What a SET answers by its row.
unfoldable pub answer_by_row : Parameters → ℕ → ℕ → List ℕ → Verdict
answer_by_row p sub pid bytes = verdict (after_by_row p sub pid bytes) sub pid (command_at p pid Set) Set (accepted p sub pid Set bytes)

-- ---- DMX_BLOCK_ADDRESS, of which the root keeps nothing: it tells and sets what the sub-devices keep. E1.37-1.

abbrev pub is_block : ℕ → Bool
is_block pid = pid == 0x0140

-- the sub-devices, in the order of their numbers
abbrev pub sub_spots : Parameters → List Spot
sub_spots p = map (sub_spot p) p.subs

-- what an accepted GET of it answers
abbrev pub block_told : Parameters → Result Value Nack → Verdict
block_told p (Err nack) = Refuse nack
block_told p (Ok value) = Reply (block_slots (sub_spots p))

-- the base address that an accepted SET hands in, if the block can start there
abbrev pub block_taken : Parameters → Result Value Nack → Result ℕ Nack
block_taken p (Err nack) = Err nack
block_taken p (Ok value) = if fits (word_or_0 value) (sub_spots p) then Ok (word_or_0 value) else Err DataOutOfRange

-- the values after it, and what it answers
abbrev pub block_moved : Parameters → Result ℕ Nack → Parameters
block_moved p (Err nack) = p
block_moved p (Ok base) = record p { subs = started_from base (sub_spots p) }

abbrev pub block_answer : Result ℕ Nack → Verdict
block_answer (Err nack) = Refuse nack
block_answer (Ok base) = Reply []

-- ---- of every parameter

-- What a GET answers.
unfoldable pub got : Parameters → ℕ → ℕ → List ℕ → Verdict
got p sub pid bytes = if is_block pid then block_told p (accepted p sub pid Get bytes) else got_by_row p sub pid bytes

-- The values after a SET; a refused one and one that starts a job leave them.
unfoldable pub after_set : Parameters → ℕ → ℕ → List ℕ → Parameters
after_set p sub pid bytes =
    if is_block pid then block_moved p (block_taken p (accepted p sub pid Set bytes)) else after_by_row p sub pid bytes

-- What a SET answers.
unfoldable pub answer_to_set : Parameters → ℕ → ℕ → List ℕ → Verdict
answer_to_set p sub pid bytes =
    if is_block pid then block_answer (block_taken p (accepted p sub pid Set bytes)) else answer_by_row p sub pid bytes
