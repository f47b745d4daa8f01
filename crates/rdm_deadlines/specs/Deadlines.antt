-- When jobs are due by their estimates. E1.20 section 6.3.3.
use Rattle.std.specs.Prelude.{ℕ, ◌+◌, ◌-◌, ◌*◌, ◌%◌, ◌^◌, ◌==◌, ◌&&◌, Bool, Option, Some, None, min, if◌then◌else◌}
use Rattle.rdm_responder.specs.declared.stepped.Started.{Started}
use Rattle.rdm_deadlines.specs.declared.deadlines.AtJob.{AtJob}
use Rattle.rdm_deadlines.specs.declared.deadlines.Deadlines.{Deadlines}

-- how many milliseconds a clock of 32 bits has counted from one time to another: after its greatest number comes 0
abbrev pub between : ℕ → ℕ → ℕ
between begun now = (now + 2 ^ 32 - begun) % 2 ^ 32

-- whether a worker was seen at the job of this number
abbrev pub is_at : AtJob → ℕ → Bool
is_at w number = (w.there == 1) && (w.number == number)

-- A worker that is seen at a job at this time. A job that it was seen at before began then; another one begins now, and takes as long as its
-- estimate says, in tenths of a second.
abbrev pub seen : AtJob → Option Started → ℕ → AtJob
seen w None now = record w { there = 0 }
seen w (Some s) now =
    if is_at w s.job.number then w
    else record { number = s.job.number; begun = now; length = 100 * s.estimate; there = 1 }

-- In how many milliseconds the estimate of its job ends: in 0 if it has ended. There is none if it is at no job.
abbrev pub left_of : AtJob → ℕ → Option ℕ
left_of w now = if w.there == 1 then Some (w.length - between w.begun now) else None

-- the lesser of two, if both are there
abbrev pub lesser : Option ℕ → Option ℕ → Option ℕ
lesser None n = n
lesser m None = m
lesser (Some m) (Some n) = Some (min m n)

-- in how many milliseconds the first estimate of the two workers' jobs ends
abbrev pub next_of : Deadlines → ℕ → Option ℕ
next_of d now = lesser (left_of d.first now) (left_of d.second now)
