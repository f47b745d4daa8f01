-- What C hands in for a responder, and what it is told of the making.
use Rattle.std.specs.Prelude.{◌≡◌, ◌↔◌, ℕ, ◌≤◌}
use Rattle.rdm_profile.specs.declared.profile.Profile.{Profile}
use Rattle.rdm_responder.specs.Settings.{HasBadProfile, HasBadSize, HasBadUid}
use Rattle.rdm_responder.specs.declared.settings.Settings.{Settings}
use Rattle.rdm_c.specs.declared.status.Status.TheVariants as status
use Rattle.rdm_c.specs.Statuses.{code_of}

-- the settings that these numbers are
abbrev pub settings_of : ℕ → ℕ → ℕ → ℕ → ℕ → Settings
settings_of maker device queue_size entries first_job = record {
  uid = record { maker = maker; device = device };
  queue_size = queue_size;
  entries = entries;
  first_job = first_job;
}

-- The code tells each refusal exactly if there is that one, the UID's before a size's and that before the profile's. Else it is
-- done or out of memory.
abbrev pub MakingTold : ℕ → Settings → Profile → Type 0
MakingTold code settings profile =
    ((code ≡ code_of status.BadUid) ↔ HasBadUid settings)
    × ((code ≡ code_of status.BadSize) ↔ HasBadSize settings)
    × ((code ≡ code_of status.BadProfile) ↔ HasBadProfile settings profile)
    × (code ≤ 4)
