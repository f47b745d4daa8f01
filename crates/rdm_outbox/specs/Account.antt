-- What has happened to an outbox since it was made: lists that only grow, and a count. Only a message that still waits can
-- leave its list again: a newer one that tells of the same may take its place. E1.20 sections 10.3.1 and 10.3.2.
use Rattle.std.specs.Prelude.{ℕ, Bool, List, []}
use Rattle.rdm_frame.specs.declared.message.Message.{Message}
use Rattle.rdm_frame.specs.declared.status.Entry.{Entry}
use Rattle.rdm_params.specs.Jobs.Work.{Choice}
use Rattle.rdm_outbox.specs.declared.job.Job.{Job}
use Rattle.rdm_outbox.specs.declared.settings.Settings.{Settings}

-- A status entry that was noted, and whether it counts as shown: a status message has shown it, or CLEAR_STATUS_ID came
-- after it.
pub record Noted : Type 0 where
  pub entry : Entry
  pub shown : Bool

-- The greatest number of jobs and messages together, of jobs for each worker, and of entries that wait to be shown; the
-- number of each worker's first job; which worker carries out which work; the jobs that were accepted; the workers whose
-- jobs have ended, one for each; the messages that arrived, without those that a newer one replaced while they waited, and
-- how many of them have left the queue, since the controller fetched them or the firmware dropped them; the status entries;
-- and the answers to QUEUED_MESSAGE and STATUS_MESSAGES, repeats left out. All of them in order of time, but that a message
-- which took the place of another stands there.
pub record Account : Type 0 where
  pub q : ℕ
  pub jobs : ℕ
  pub entries : ℕ
  pub first_job : ℕ
  pub workers : Choice
  pub accepted : List Job
  pub ended : List ℕ
  pub arrived : List Message
  pub gone : ℕ
  pub noted : List Noted
  pub answers : List Message

-- the account of an outbox that was just made with these settings
abbrev pub account_before : Settings → Account
account_before settings = record {
  q = settings.q;
  jobs = settings.jobs;
  entries = settings.entries;
  first_job = settings.first_job;
  workers = settings.workers;
  accepted = [];
  ended = [];
  arrived = [];
  gone = 0;
  noted = [];
  answers = [];
}
