-- What a responder is made with, and when it is refused.
use Rattle.std.specs.Prelude.{◌≡◌, ℕ}
use Rattle.rdm_frame.specs.declared.uid.Uid.{Uid}
use Rattle.rdm_profile.specs.declared.profile.Profile.{Profile}
use Rattle.rdm_params.specs.Device.Profiles.{CanBeMade}
use Rattle.rdm_params.specs.Jobs.Work.{Choice}
use Rattle.rdm_outbox.specs.Settings.{IsListSize, IsQueueSize, most_entries}
use Rattle.rdm_outbox.specs.declared.settings.Settings.{Settings as OutboxSettings}
use Rattle.rdm_responder.specs.History.{Setup}
use Rattle.rdm_responder.specs.Rules.{most_jobs}
use Rattle.rdm_responder.specs.declared.settings.Settings.{Settings}

-- room for as many status entries as there can be, and jobs that begin at 0
abbrev pub usual_settings : Uid → ℕ → Settings
usual_settings uid queue_size = record { uid = uid; queue_size = queue_size; entries = most_entries; first_job = 0 }

-- the setup of a responder that is made with these settings and this profile
abbrev pub setup_with : Settings → Profile → Setup
setup_with s profile = record {
  uid = s.uid;
  profile = profile;
  queue_size = s.queue_size;
  entries = s.entries;
  first_job = s.first_job;
}

-- what its outbox is made with, whose jobs have these workers
abbrev pub outbox_settings : Settings → Choice → OutboxSettings
outbox_settings s workers = record {
  q = s.queue_size;
  entries = s.entries;
  jobs = most_jobs;
  first_job = s.first_job;
  workers = workers;
}

-- The refusals, in the order in which they are tested. The first that there is a reason for is told.

-- the UID addresses more than one device
abbrev pub HasBadUid : Settings → Type 0
HasBadUid s = s.uid.device ≡ 0xFFFFFFFF

-- it has a size that it can't have
abbrev pub HasBadSize : Settings → Type 0
HasBadSize s = ¬ HasBadUid s × ¬ (IsQueueSize s.queue_size × IsListSize s.entries)

-- the profile breaks a rule, or has too many sub-devices
abbrev pub HasBadProfile : Settings → Profile → Type 0
HasBadProfile s profile = ¬ HasBadUid s × (IsQueueSize s.queue_size × IsListSize s.entries) × ¬ CanBeMade profile
