-- When an outbox is in the state that an account comes to.
use Rattle.std.specs.Prelude.{◌≡◌, ◌≤◌, length}
use Rattle.rdm_outbox.specs.Account.{Account}
use Rattle.rdm_outbox.specs.Jobs.{jobs_of, ended_of, outstanding_of, waiting_of}
use Rattle.rdm_outbox.specs.Messages.{last_of}
use Rattle.rdm_outbox.specs.State.{State}
use Rattle.rdm_outbox.specs.Statuses.{unshown}

-- The state has the bounds of the account, its first number and its choice of workers, and is what its lists come to. No
-- worker has ended more jobs than it was given, and no more messages have left the queue than arrived.
pub record Shows (s : State) (a : Account) : Type 0 where
  pub q : s.q ≡ a.q
  pub jobs : s.jobs ≡ a.jobs
  pub entries : s.entries ≡ a.entries
  pub first_job : s.first_job ≡ a.first_job
  pub workers : s.workers ≡ a.workers
  pub first : s.first ≡ outstanding_of a 0
  pub second : s.second ≡ outstanding_of a 1
  pub first_given : s.first_given ≡ length (jobs_of a.workers 0 a.accepted)
  pub second_given : s.second_given ≡ length (jobs_of a.workers 1 a.accepted)
  pub first_ended : ended_of 0 a.ended ≤ length (jobs_of a.workers 0 a.accepted)
  pub second_ended : ended_of 1 a.ended ≤ length (jobs_of a.workers 1 a.accepted)
  pub queue : s.queue ≡ waiting_of a
  pub within : a.gone ≤ length a.arrived
  pub unshown : s.unshown ≡ unshown a.noted
  pub last : s.last ≡ last_of a
