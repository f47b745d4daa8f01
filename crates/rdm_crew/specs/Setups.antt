-- Where the bus of a run stands at first, and which setups can't be run.
use Rattle.std.specs.Prelude.{◌≡◌, ◌⊎◌, true, false}
use Rattle.rdm_frame.specs.Addressing.{is_broadcast}
use Rattle.rdm_params.specs.Device.Profiles.{CanBeMade}
use Rattle.rdm_outbox.specs.Settings.{IsQueueSize}
use Rattle.rdm_responder.specs.History.{empty_history}
use Rattle.rdm_responder.specs.Settings.{setup_with, usual_settings}
use Rattle.rdm_bus.specs.BusRun.{Start}
use Rattle.rdm_crew.specs.declared.setup.Setup.{Setup}

-- The device was just switched on, with room for the most status entries. The first transaction and the first jobs have the
-- number 0, and no poll is unanswered.
abbrev pub switched_on : Setup → Start
switched_on s = record {
  history = empty_history (setup_with (usual_settings s.device s.queue_size) s.profile);
  uid = s.controller;
  target = s.device;
  want = s.want;
  tn = 0;
  unanswered = false;
}

-- The controller's UID is a broadcast or the device's; or there is no such device: its UID is a broadcast, its size of the
-- queue is none, or its profile breaks a rule.
abbrev pub IsBadSetup : Setup → Type 0
IsBadSetup s =
    (is_broadcast s.controller ≡ true) ⊎ (s.controller ≡ s.device)
    ⊎ (is_broadcast s.device ≡ true) ⊎ (¬ IsQueueSize s.queue_size) ⊎ (¬ CanBeMade s.profile)
