-- Outcomes, reports and status entries as the numbers that C has of them.
use Rattle.std.specs.Prelude.{ℕ, ◌==◌, if◌then◌else◌, Option, Some, None}
use Rattle.std.specs.Option.{option_map}
use Rattle.rdm_frame.specs.declared.status.Entry.{Entry as StatusEntry}
use Rattle.rdm_frame.specs.declared.status.Severity.{Severity}
use Rattle.rdm_frame.specs.Severities.{severity_in}
use Rattle.rdm_commands.specs.declared.jobs.outcome.Outcome.{Outcome}
use Rattle.rdm_commands.specs.declared.jobs.outcome.Outcome.TheVariants.{Done, Reading, Failed}
use Rattle.rdm_outbox.specs.declared.job.Job.{Job}
use Rattle.rdm_responder.specs.declared.report.Report.{Report}
use Rattle.rdm_c.specs.declared.job.JobNumbers.{JobNumbers}
use Rattle.rdm_c.specs.declared.outcome.OutcomeNumbers.{OutcomeNumbers}
use Rattle.rdm_c.specs.Jobs.{job_in}

abbrev pub failed_with : OutcomeNumbers → Severity → Outcome
failed_with o severity = Failed severity o.id o.v1 o.v2

-- The outcome that numbers stand for: a SET is done, a sensor gave a reading, or it failed.
abbrev pub outcome_in : OutcomeNumbers → Option Outcome
outcome_in o =
    if o.kind == 0 then Some Done
    else if o.kind == 1 then Some (Reading o.reading)
    else if o.kind == 2 then option_map (failed_with o) (severity_in o.severity) else None

abbrev pub report_of : Option Job → Option Outcome → Option Report
report_of (Some job) (Some outcome) = Some (record { job = job; outcome = outcome })
report_of _ _ = None

-- the report that both stand for
abbrev pub report_in : JobNumbers → OutcomeNumbers → Option Report
report_in job outcome = report_of (job_in job) (outcome_in outcome)

-- The status entry that numbers stand for, if the status type is one of the six of table A-4: the sub-device, the status
-- type, the status ID, and the two values that its text names. E1.20 section 10.3.2.
abbrev pub entry_with : ℕ → ℕ → ℕ → ℕ → Severity → StatusEntry
entry_with sub id v1 v2 severity = record { sub = sub; severity = severity; id = id; v1 = v1; v2 = v2 }

abbrev pub entry_in : ℕ → ℕ → ℕ → ℕ → ℕ → Option StatusEntry
entry_in sub severity id v1 v2 = option_map (entry_with sub id v1 v2) (severity_in severity)
