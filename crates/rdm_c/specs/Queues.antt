-- What C is told of what waits at a responder, and of the jobs that its workers are at.
use Rattle.std.specs.Prelude.{◌≡◌, ℕ, false, Option, Some, None, option_map, slice_get}
use Rattle.rdm_frame.specs.declared.message.Message.{Message}
use Rattle.rdm_collector.specs.declared.any_device.collected.Collected.{Collected}
use Rattle.rdm_collector.specs.declared.reply.Response.TheVariants.{Ack}
use Rattle.rdm_outbox.specs.Jobs.{waiting_of}
use Rattle.rdm_responder.specs.History.{History}
use Rattle.rdm_responder.specs.Rules.{account_of}
use Rattle.rdm_responder.specs.Runs.{outbox_of}
use Rattle.rdm_responder.specs.Started.{working_at}
use Rattle.rdm_responder.specs.declared.stepped.Started.{Started}
use Rattle.rdm_c.specs.declared.job.JobNumbers.{JobNumbers}
use Rattle.rdm_c.specs.declared.message.MessageNumbers.{MessageNumbers}
use Rattle.rdm_c.specs.declared.status.Status.TheVariants as status
use Rattle.rdm_c.specs.Statuses.{code_of}
use Rattle.rdm_c.specs.Jobs.{numbers_of}
use Rattle.rdm_c.specs.Messages.{MessageTold}

-- A message that waits, as a controller collects it: with an ACK, once, and with nothing lost before it.
abbrev pub as_collected : Message → Collected
as_collected m = record { response = Ack; message = m; again = false; after_loss = false }

-- C is told of the message with this index among those that wait, the oldest of which has 0, or that there is none.
abbrev pub WaitingTold : ℕ → MessageNumbers → History → ℕ → Type 0
WaitingTold code n h index = MessageTold code n (option_map as_collected (slice_get (waiting_of (outbox_of h)) index))

-- it is done if there is one, and else there is no more
abbrev pub DoneIfThere : ℕ → Option Message → Type 0
DoneIfThere code None = code ≡ code_of status.NoMore
DoneIfThere code (Some m) = code ≡ code_of status.Done

-- what C is told of a job that a worker may be at
abbrev pub JobTold : History → ℕ → JobNumbers → Option Started → Type 0
JobTold h code n None = code ≡ code_of status.NoMore
JobTold h code n (Some s) = (code ≡ code_of status.Done) × (n ≡ numbers_of (account_of h).parameters.profile s.job)

-- C is told of the job that a worker is at, or that it is at none.
abbrev pub WorkingTold : ℕ → JobNumbers → History → ℕ → Type 0
WorkingTold code n h worker = JobTold h code n (working_at h worker)

-- C is told of a number, or that there is none.
abbrev pub NumberTold : ℕ → ℕ → Option ℕ → Type 0
NumberTold code n None = code ≡ code_of status.NoMore
NumberTold code n (Some number) = (code ≡ code_of status.Done) × (n ≡ number)
