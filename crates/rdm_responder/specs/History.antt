-- What happens to a responder, from the moment that it is switched on.
use Rattle.std.specs.Prelude.{ℕ, List, [], ◌∷◌, ◌++◌}
use Rattle.rdm_frame.specs.declared.uid.Uid.{Uid}
use Rattle.rdm_frame.specs.declared.status.Entry.{Entry as StatusEntry}
use Rattle.rdm_commands.specs.declared.panel.Change.{Change}
use Rattle.rdm_profile.specs.declared.profile.Profile.{Profile}
use Rattle.rdm_responder.specs.declared.report.Report.{Report}

-- What a responder is set up with: its UID, what it is, how many results of slow commands it has room for, how many status
-- entries can wait to be shown, and the number of each worker's first job.
pub record Setup : Type 0 where
  pub uid : Uid
  pub profile : Profile
  pub queue_size : ℕ
  pub entries : ℕ
  pub first_job : ℕ

-- Something that happens: bytes are heard on the bus, the report of a job arrives, a person changes something at the
-- fixture's own menu, the firmware places a value, of a sub-device and a PID, it has a status entry to tell, it restores
-- the values from an image of them, as it does when the fixture was switched on, or it drops the oldest message that waits.
pub data Event : Type 0 where
  Heard : List ℕ → Event
  Arrived : Report → Event
  Changed : Change → Event
  Placed : ℕ → ℕ → List ℕ → Event
  Noted : StatusEntry → Event
  Restored : List ℕ → Event
  Dropped : Event

-- A setup, and what happened since, in order of time.
pub record History : Type 0 where
  pub setup : Setup
  pub events : List Event

-- nothing has happened yet
abbrev pub empty_history : Setup → History
empty_history setup = record { setup = setup; events = [] }

-- and then this happens
abbrev pub then_event : History → Event → History
then_event h event = record h { events = h.events ++ event ∷ [] }
