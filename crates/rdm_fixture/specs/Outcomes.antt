-- Which table is a rule: the jobs that it speaks of, and what they come to.
use Rattle.std.specs.Prelude.{◌≡◌, ℕ, true, IsTrue, List, [], ◌∷◌, Option, Some, None, option_map, if◌then◌else◌, codes}
use Rattle.std.specs.Str.{bytes_eq}
use Rattle.toml.specs.Data.{Data, string, boolean, Members, get_member}
use Rattle.rdm_frame.specs.declared.status.Severity.{Severity}
use Rattle.rdm_frame.specs.declared.status.Severity.TheVariants.{Advisory, Warning, Error}
use Rattle.rdm_commands.specs.declared.jobs.outcome.Outcome.{Outcome}
use Rattle.rdm_commands.specs.declared.jobs.outcome.Outcome.TheVariants.{Done, Reading, Failed}
use Rattle.rdm_outcomes.specs.declared.rule.Rule.{Rule}
use Rattle.rdm_outcomes.specs.declared.rule.Task.{Task}
use Rattle.rdm_outcomes.specs.declared.rule.Task.TheVariants.{LampState, PowerState, PerformSelfTest, SensorValue}
use Rattle.rdm_outcomes.specs.Outcomes.{suits}
use Rattle.rdm_fixture_keys.specs.Values.{number, signed}
use Rattle.rdm_fixture_keys.specs.Keys.{must, may, Must, May, has_only}

-- the parameter of this name whose command is a job
abbrev pub task_named : List ℕ → Option Task
task_named s =
    if bytes_eq s (codes "LAMP_STATE") then Some LampState
    else (if bytes_eq s (codes "POWER_STATE") then Some PowerState
    else (if bytes_eq s (codes "PERFORM_SELFTEST") then Some PerformSelfTest
    else (if bytes_eq s (codes "SENSOR_VALUE") then Some SensorValue else None)))

abbrev pub task : Data → Option Task
task (string s) = task_named s
task _ = None

-- how bad a failure is. Table A-4.
abbrev pub severity_named : List ℕ → Option Severity
severity_named s =
    if bytes_eq s (codes "advisory") then Some Advisory
    else (if bytes_eq s (codes "warning") then Some Warning
    else (if bytes_eq s (codes "error") then Some Error else None))

abbrev pub severity : Data → Option Severity
severity (string s) = severity_named s
severity _ = None

-- one of the numbers; without the key it is each
abbrev pub only_number : ℕ → ℕ → Data → Option (Option ℕ)
only_number least most d = option_map (λ n. Some n) (number least most d)

abbrev pub done : Data → Option Outcome
done (boolean true) = Some Done
done _ = None

abbrev pub failed : Option Severity → Option ℕ → Option ℕ → Option ℕ → Option Outcome
failed (Some severity) (Some id) (Some v1) (Some v2) = Some (Failed severity id v1 v2)
failed _ _ _ _ = None

-- the fields of a status message. Section 10.3.2.
abbrev pub failed_in : Members → Option Outcome
failed_in t =
    failed (must severity (get_member (codes "severity") t)) (must (number 0 0xFFFF) (get_member (codes "status_id") t))
    (may 0 (number 0 0xFFFF) (get_member (codes "data_value_1") t)) (may 0 (number 0 0xFFFF) (get_member (codes "data_value_2") t))

abbrev pub outcome_at : Option Data → Option Data → Option Outcome → Option Outcome
outcome_at (Some d) reading failure = done d
outcome_at None (Some d) failure = option_map Reading (signed d)
outcome_at None None failure = failure

-- what the jobs come to: they are done, or a sensor measures this, or they fail so
abbrev pub outcome_in : Members → Option Outcome
outcome_in t = outcome_at (get_member (codes "done") t) (get_member (codes "reading") t) (failed_in t)

-- the keys of each rule, and these
abbrev pub and_job_keys : List (List ℕ) → List (List ℕ)
and_job_keys own = codes "parameter" ∷ codes "value" ∷ codes "job" ∷ own

-- the keys of a rule with this outcome, so that no other outcome stands beside it
abbrev pub rule_keys : Outcome → List (List ℕ)
rule_keys Done = and_job_keys (codes "done" ∷ [])
rule_keys (Reading value) = and_job_keys (codes "reading" ∷ [])
rule_keys (Failed severity id v1 v2) =
    and_job_keys (codes "severity" ∷ codes "status_id" ∷ codes "data_value_1" ∷ codes "data_value_2" ∷ [])

-- The value is a lamp state, a power state, or the number of a self test or of a sensor (sections 10.8.4, 10.11
-- and 10.7.2); the job is which of those jobs it is, from 1.
pub record IsOutcome (t : Members) (r : Rule) : Type 0 where
  pub keys : IsTrue (has_only (rule_keys r.outcome) t)
  pub task : Must t (codes "parameter") task r.task
  pub value : May t (codes "value") None (only_number 0 0xFF) r.value
  pub turn : May t (codes "job") None (only_number 1 0xFFFF) r.turn
  pub outcome : outcome_in t ≡ Some r.outcome
  pub fits : suits r.task r.outcome ≡ true
