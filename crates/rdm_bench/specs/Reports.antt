-- The reports of jobs.
use Rattle.std.specs.Prelude.{ℕ, pos, ◌==◌, if◌then◌else◌, List, Option, Some, None, option_map, filter_map}
use Rattle.rdm_frame.specs.declared.status.Severity.{Severity}
use Rattle.rdm_frame.specs.declared.status.Severity.TheVariants as severity
use Rattle.rdm_table.specs.declared.kind.Verb.{Verb}
use Rattle.rdm_table.specs.declared.kind.Verb.TheVariants.{Get, Set}
use Rattle.rdm_commands.specs.declared.jobs.outcome.Outcome.{Outcome}
use Rattle.rdm_commands.specs.declared.jobs.outcome.Outcome.TheVariants as outcome
use Rattle.rdm_outbox.specs.declared.job.Job.{Job}
use Rattle.rdm_responder.specs.declared.report.Report.{Report}
use Rattle.rdm_bench.specs.declared.reports.Reports.{Reports}
use Rattle.rdm_bench.specs.declared.reports.Reports.TheVariants.{Withheld, Done, Advisory, Error}

-- the reports that this code asks for; there is no code above 3
abbrev pub reports_with : ℕ → Option Reports
reports_with code =
    if code == 0 then Some Withheld
    else (if code == 1 then Some Done
    else (if code == 2 then Some Advisory
    else (if code == 3 then Some Error
    else None)))

-- what was asked for is done: a SET is, and a sensor measures 25
abbrev pub done : Verb → Outcome
done Set = outcome.Done
done Get = outcome.Reading (pos 25)

-- it failed, so badly: the status ID is that of a lamp that failed to strike, and the status text needs no values
abbrev pub failed : Severity → Outcome
failed severity = outcome.Failed severity 0x8001 0 0

-- how a job of this command is reported to end, where it is reported
abbrev pub outcome_of : Reports → Verb → Option Outcome
outcome_of Withheld verb = None
outcome_of Done verb = Some (done verb)
outcome_of Advisory verb = Some (failed severity.Advisory)
outcome_of Error verb = Some (failed severity.Error)

-- the report of a job
abbrev pub report_of : Reports → Job → Option Report
report_of reports job = option_map (λ end. record { job = job; outcome = end }) (outcome_of reports job.work.verb)

-- the reports of jobs, one after another
abbrev pub reports_of : Reports → List Job → List Report
reports_of reports jobs = filter_map (report_of reports) jobs
