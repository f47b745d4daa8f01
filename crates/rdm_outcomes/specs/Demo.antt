-- The demonstration: how each of its jobs ends.
use Rattle.std.specs.Prelude.{ℕ, ◌==◌, ◌&&◌, List, ◌∷◌, [], Some, None, if◌then◌else◌}
use Rattle.rdm_frame.specs.declared.status.Severity.{Severity}
use Rattle.rdm_frame.specs.declared.status.Severity.TheVariants.{Warning, Error}
use Rattle.rdm_commands.specs.declared.jobs.outcome.Outcome.{Outcome}
use Rattle.rdm_commands.specs.declared.jobs.outcome.Outcome.TheVariants.{Failed}
use Rattle.rdm_outbox.specs.declared.job.Job.{Job}
use Rattle.rdm_outcomes.specs.declared.rule.Rule.{Rule}
use Rattle.rdm_outcomes.specs.declared.rule.Task.{Task}
use Rattle.rdm_outcomes.specs.declared.rule.Task.TheVariants.{LampState, PerformSelfTest}
use Rattle.rdm_outcomes.specs.Outcomes.{task_pid, usual_outcome}

-- each job of a task for the value 2 fails so
abbrev pub failing : Task → Severity → ℕ → Rule
failing task severity id = record { task = task; value = Some 2; turn = None; outcome = Failed severity id 2 0 }

abbrev pub demo_rules : List Rule
demo_rules = failing LampState Error 0x8001 ∷ failing PerformSelfTest Warning 0x8002 ∷ []

-- The lamp fails to strike (LAMP_STATE, E1.20 section 10.8.4), and the second self test fails (PERFORM_SELFTEST, section
-- 10.11); each sensor measures 25 and its own number, and every other job is done.
abbrev pub demo_outcome : Job → Outcome
demo_outcome job =
    if (job.work.pid == task_pid LampState) && (job.work.arg == 2) then Failed Error 0x8001 2 0
    else (if (job.work.pid == task_pid PerformSelfTest) && (job.work.arg == 2) then Failed Warning 0x8002 2 0 else usual_outcome job)
