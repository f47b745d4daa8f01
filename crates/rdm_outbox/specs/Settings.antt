-- What an outbox is made with.
use Rattle.std.specs.Prelude.{ℕ, ◌≤◌}
use Rattle.rdm_profile.specs.Workers.{usual_workers}
use Rattle.rdm_outbox.specs.declared.settings.Settings.{Settings}

-- the greatest number of jobs and messages together that an outbox may have room for
abbrev pub most_waiting : ℕ
most_waiting = 1024

-- the greatest number of status entries that an outbox may have room for
abbrev pub most_entries : ℕ
most_entries = 1024

-- how many jobs and messages there may be room for
abbrev pub IsQueueSize : ℕ → Type 0
IsQueueSize q = (1 ≤ q) × (q ≤ most_waiting)

-- how many status entries there may be room for
abbrev pub IsListSize : ℕ → Type 0
IsListSize entries = (1 ≤ entries) × (entries ≤ most_entries)

-- An outbox can have these sizes: each is in its range, and each worker may be given a job.
abbrev pub IsGood : Settings → Type 0
IsGood s = IsQueueSize s.q × IsListSize s.entries × (1 ≤ s.jobs)

-- room for as many status entries as there can be, jobs that begin at 0, and the usual workers
abbrev pub usual_settings : ℕ → ℕ → Settings
usual_settings q jobs = record { q = q; entries = most_entries; jobs = jobs; first_job = 0; workers = usual_workers }
