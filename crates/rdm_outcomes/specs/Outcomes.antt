-- How jobs end by rules. E1.20 section 6.3.3 lets a responder take its time; what a job comes to is its device's to say.
use Rattle.std.specs.Prelude.{◌≡◌, ℕ, suc, ◌+◌, ◌==◌, ◌&&◌, Bool, true, false, pos, List, map, find, count_by, nat_le, Option, Some, None, if◌then◌else◌}
use Rattle.rdm_params.specs.Table.Kinds.{pid_of}
use Rattle.rdm_table.specs.declared.kind.Kind.{Kind}
use Rattle.rdm_table.specs.declared.kind.Kind.TheVariants as kinds
use Rattle.rdm_commands.specs.declared.jobs.outcome.Outcome.{Outcome}
use Rattle.rdm_commands.specs.declared.jobs.outcome.Outcome.TheVariants.{Done, Reading, Failed}
use Rattle.rdm_outbox.specs.declared.job.Job.{Job}
use Rattle.rdm_outcomes.specs.declared.rule.Rule.{Rule}
use Rattle.rdm_outcomes.specs.declared.rule.Task.{Task}
use Rattle.rdm_outcomes.specs.declared.rule.Task.TheVariants.{LampState, PowerState, PerformSelfTest, SensorValue}
use Rattle.rdm_outcomes.specs.declared.planned.Counted.{Counted}
use Rattle.rdm_outcomes.specs.declared.planned.Planned.{Planned}

-- the parameter of a task's command
abbrev pub kind_of : Task → Kind
kind_of LampState = kinds.LampState
kind_of PowerState = kinds.PowerState
kind_of PerformSelfTest = kinds.PerformSelfTest
kind_of SensorValue = kinds.SensorValue

-- its PID
abbrev pub task_pid : Task → ℕ
task_pid task = pid_of (kind_of task)

-- a task can have an outcome: a sensor gives a reading (section 10.7.2), each other task is done, and each may fail
abbrev pub suits : Task → Outcome → Bool
suits task (Failed severity id v1 v2) = true
suits SensorValue (Reading value) = true
suits SensorValue Done = false
suits _ (Reading value) = false
suits _ Done = true

abbrev pub is_value : Option ℕ → ℕ → Bool
is_value None value = true
is_value (Some only) value = value == only

-- a rule speaks of a job: it is of its task, and for its value, if it has one
abbrev pub is_for : Rule → Job → Bool
is_for rule job = (job.work.pid == task_pid rule.task) && is_value rule.value job.work.arg

-- it is the turn of what comes after N others
abbrev pub is_turn : Option ℕ → ℕ → Bool
is_turn None seen = true
is_turn (Some turn) seen = turn == suc seen

-- a rule says how a job ends that comes after N that it speaks of
abbrev pub holds : Rule → ℕ → Job → Bool
holds rule seen job = is_for rule job && (suits rule.task rule.outcome && is_turn rule.turn seen)

-- without a rule a sensor measures 25 and its own number (SENSOR_VALUE, section 10.7.2), and every other job is done
abbrev pub usual_outcome : Job → Outcome
usual_outcome job = if job.work.pid == task_pid SensorValue then Reading (pos (25 + job.work.arg)) else Done

abbrev pub outcome_by : Option Counted → Job → Outcome
outcome_by None job = usual_outcome job
outcome_by (Some counted) job = counted.rule.outcome

-- the first rule says it that speaks of the job, and of this one of them
abbrev pub outcome_at : List Counted → Job → Outcome
outcome_at counted job = outcome_by (find (λ c. holds c.rule c.seen job) counted) job

-- how many jobs before a rule speaks of; from 4,294,967,295 on they aren't counted
abbrev pub seen_in : List Job → Rule → ℕ
seen_in before rule = let n = count_by (is_for rule) before in if nat_le n 4294967295 then n else 4294967295

abbrev pub counted_in : List Job → Rule → Counted
counted_in before rule = record { rule = rule; seen = seen_in before rule }

-- How a job ends by rules, after the jobs before.
abbrev pub outcome_of : List Rule → List Job → Job → Outcome
outcome_of rules before job = outcome_at (map (counted_in before) rules) job

-- How a job may end by rules, however many jobs each rule has counted before: as the first one says that speaks of it then, and as usual
-- if none does.
abbrev pub CanEnd : List Rule → Job → Outcome → Type 0
CanEnd rules job outcome = (counted : List Counted) × (map (λ c. c.rule) counted ≡ rules) × (outcome ≡ outcome_at counted job)

-- It has the rules, and these jobs have ended.
abbrev pub HasEnded : Planned → List Rule → List Job → Type 0
HasEnded planned rules before = planned.counted.items ≡ map (counted_in before) rules

-- a job more has ended
abbrev pub note : Job → Counted → Counted
note job counted =
    if is_for counted.rule job then record { rule = counted.rule; seen = if nat_le 4294967295 counted.seen then 4294967295 else suc counted.seen }
    else counted
