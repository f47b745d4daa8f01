-- Jobs that are outstanding, messages that wait, and the room for a further job.
use Rattle.std.specs.Prelude.{ℕ, ◌+◌, ◌%◌, ◌^◌, ◌==◌, ◌&&◌, Bool, List, [], ◌∷◌, ◌++◌, length, drop, filter, count_by, nat_lt, Result, Ok, Err, if◌then◌else◌}
use Rattle.rdm_frame.specs.declared.message.Message.{Message}
use Rattle.rdm_commands.specs.declared.jobs.work.Work.{Work}
use Rattle.rdm_params.specs.Jobs.Work.{Choice, worker_at}
use Rattle.rdm_outbox.specs.declared.job.Job.{Job}
use Rattle.rdm_outbox.specs.declared.job.Full.{Full}
use Rattle.rdm_outbox.specs.declared.job.Full.TheVariants.{NoRoom}
use Rattle.rdm_outbox.specs.Account.{Account}

-- the jobs of a worker, by this choice
abbrev pub jobs_of : Choice → ℕ → List Job → List Job
jobs_of ws worker jobs = filter (λ job. worker_at ws job.work == worker) jobs

-- how many of a worker's jobs have ended
abbrev pub ended_of : ℕ → List ℕ → ℕ
ended_of worker ended = count_by (λ w. w == worker) ended

-- The outstanding jobs of a worker: those that were accepted, without as many of the first as have ended.
abbrev pub outstanding_of : Account → ℕ → List Job
outstanding_of a worker = drop (ended_of worker a.ended) (jobs_of a.workers worker a.accepted)

-- the outstanding jobs of both workers, counted
abbrev pub outstanding_count : Account → ℕ
outstanding_count a = length (outstanding_of a 0) + length (outstanding_of a 1)

-- the messages that wait: those that arrived, without as many of the first as have left the queue
abbrev pub waiting_of : Account → List Message
waiting_of a = drop a.gone a.arrived

-- how many jobs a worker was given
abbrev pub given_to : ℕ → Account → ℕ
given_to worker a = length (jobs_of a.workers worker a.accepted)

-- The number of a worker's next job, from that of its first and how many it was given. Numbers have 32 bits: after the
-- greatest comes 0.
unfoldable pub number_after : ℕ → ℕ → ℕ
number_after first_job given = (first_job + given) % 2 ^ 32

-- the job of this number
abbrev pub numbered : ℕ → Work → Job
numbered number work = record { number = number; work = work }

-- the job that this work becomes, with the next number of its worker
abbrev pub next_job : Account → Work → Job
next_job a work = numbered (number_after a.first_job (given_to (worker_at a.workers work) a)) work

-- There is a place for one more: outstanding jobs and waiting messages are fewer than q.
abbrev pub has_place : Account → Bool
has_place a = nat_lt (outstanding_count a + length (waiting_of a)) a.q

-- The room rule: there is a place, and the worker may be given a further job.
abbrev pub has_room : Account → Work → Bool
has_room a work = has_place a && nat_lt (given_to (worker_at a.workers work) a) a.jobs

-- what `reserve` answers, and the account after it
abbrev pub reserved : Account → Work → Result Job Full
reserved a work = if has_room a work then Ok (next_job a work) else Err NoRoom

abbrev pub after_reserve : Account → Work → Account
after_reserve a work = if has_room a work then record a { accepted = a.accepted ++ next_job a work ∷ [] } else a

-- the account after the oldest job of a worker has ended with this message
abbrev pub after_arrive : Account → ℕ → Message → Account
after_arrive a worker message = record a { ended = a.ended ++ worker ∷ []; arrived = a.arrived ++ message ∷ [] }
