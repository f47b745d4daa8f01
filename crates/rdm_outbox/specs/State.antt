-- What a contract sees of an outbox.
use Rattle.std.specs.Prelude.{ℕ, ◌+◌, ◌≤◌, ◌==◌, Bool, List, [], length, nat_lt, if◌then◌else◌}
use Rattle.rdm_frame.specs.declared.message.Message.{Message}
use Rattle.rdm_frame.specs.declared.status.Entry.{Entry}
use Rattle.rdm_params.specs.Jobs.Work.{Choice}
use Rattle.rdm_outbox.specs.Settings.{most_waiting}
use Rattle.rdm_outbox.specs.declared.job.Job.{Job}

-- Its three bounds; the number of each worker's first job; which worker carries out which work; of the first and the second
-- worker the outstanding jobs, and how many it was given; the messages that wait; the entries that weren't shown; and the
-- last message.
pub record State : Type 0 where
  pub q : ℕ
  pub jobs : ℕ
  pub entries : ℕ
  pub first_job : ℕ
  pub workers : Choice
  pub first : List Job
  pub second : List Job
  pub first_given : ℕ
  pub second_given : ℕ
  pub queue : List Message
  pub unshown : List Entry
  pub last : Message

-- the outstanding jobs of a worker, of which there are two
abbrev pub jobs_at : State → ℕ → List Job
jobs_at s worker = if worker == 0 then s.first else (if worker == 1 then s.second else [])

-- whether there is a place for one more: the jobs and the messages are fewer than q
abbrev pub place_in : State → Bool
place_in s = nat_lt (length s.first + length s.second + length s.queue) s.q

-- How far the lists and counts of an outbox go: for each outstanding job there is room for its message.
pub record HasRoom (s : State) : Type 0 where
  pub most : s.q ≤ most_waiting
  pub room : length s.first + length s.second + length s.queue ≤ s.q
  pub first_given : s.first_given ≤ s.jobs
  pub second_given : s.second_given ≤ s.jobs
  pub unshown : length s.unshown ≤ s.entries
